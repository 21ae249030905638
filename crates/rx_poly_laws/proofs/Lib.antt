-- Lemmas on the definitions of specs/.
pub mod BoundLaws
pub mod Coefficients
pub mod InnerLaws
pub mod InstanceVariables
pub mod Locality
pub mod Nodes
pub mod NormLaws
pub mod NormVariables
pub mod SameInstance
pub mod SumCoefficients
pub mod TestLaws
