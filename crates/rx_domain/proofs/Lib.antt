-- Lemmas on the definitions of specs/, and on the domains of rx_term.
pub mod Inside
pub mod Kept
pub mod SettingLaws
pub mod Turns
