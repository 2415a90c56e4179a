pub mod ById
pub mod LabelsReading
pub mod Lines
pub mod PotentialsReading
pub mod SolutionReading
