pub mod SpaceWords
pub mod SettingsBytes
mod FieldTexts
