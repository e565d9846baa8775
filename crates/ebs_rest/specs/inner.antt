pub mod Router
pub mod CallOf
pub mod Memory
pub mod Order
pub mod RuleOrder
pub mod PolicyOrder
