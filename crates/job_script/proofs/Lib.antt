pub mod LineParts
pub mod MemberParts
pub mod PutParts
pub mod RowTokens
pub mod ScriptParts
pub mod SizeParts
