-- Steps from the start, what they keep, and what choices and visits come to.
-- Whether goals are left; what is made of a list.
pub mod BegunLaws
pub mod Choosing
pub mod Closing
pub mod Finding
pub mod Left
pub mod Lifting
pub mod Mapped
pub mod Menus
pub mod Rooted
pub mod Running
pub mod Settled
pub mod Shallow
pub mod Trying
