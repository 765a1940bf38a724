pub mod KeyParts
pub mod LimitParts
pub mod LineParts
pub mod RowParts
pub mod ScriptParts
