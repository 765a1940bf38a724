pub mod CellsBack
pub mod CellsFound
pub mod EndsAgain
pub mod FileBack
pub mod FileFound
pub mod FooterAgain
pub mod GroupsAgain
pub mod Whole
