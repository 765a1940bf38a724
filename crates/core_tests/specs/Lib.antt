pub mod Past
pub mod StepKinds
