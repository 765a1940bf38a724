pub mod BaseForm
pub mod Written
