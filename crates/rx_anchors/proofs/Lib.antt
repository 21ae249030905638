-- Lemmas on the definitions of specs/.
pub mod MemberLaws
pub mod Products
pub mod ValueLaws
