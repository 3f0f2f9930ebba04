pub mod Counted
pub mod Deciphered
pub mod Fronts
pub mod Lone
pub mod OnlyKind
pub mod Secrets
