pub mod Trials
pub mod MadePlans
pub mod Resumes
