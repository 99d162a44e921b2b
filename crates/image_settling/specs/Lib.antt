pub mod Opening
pub mod FoundWay
