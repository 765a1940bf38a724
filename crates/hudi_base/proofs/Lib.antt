pub mod CalendarLemmas
pub mod CivilLemmas
pub mod DigitsLemmas
pub mod Times
pub mod TimeOrder
pub mod TimeTexts
