pub mod DriveLaws
pub mod PrintLaws
