pub mod ClassNames
pub mod Steps
pub mod Parameters
pub mod FieldLaws
pub mod MethodLaws
pub mod SameLaws
