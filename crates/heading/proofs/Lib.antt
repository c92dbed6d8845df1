mod RateSteps
pub mod Fronts
