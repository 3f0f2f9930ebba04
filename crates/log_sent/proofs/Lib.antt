pub mod Keys
pub mod Going
pub mod Stating
pub mod OnePrint
pub mod Placed
