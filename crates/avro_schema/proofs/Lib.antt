pub mod HeadLemmas
pub mod Lists
pub mod Loops
pub mod TypeJson
pub mod Steps
pub mod HeadsAgain
pub mod TypesAgain
pub mod NameListLemmas
