-- What the third signed sentence is said of, in the specification's words; the sentence as one record; the theorems
-- about its parts, one file for each, and the parts joined; two sentences on the calls; rows left out and catalogues; and
-- instances.
pub mod Strictly
pub mod Asked
pub mod ThirdSentence
pub mod Ordered
pub mod Dropped
pub mod Among
pub mod ThirdClause
pub mod Unread
pub mod LeftOut
pub mod Leaving
pub mod Instances
pub mod InstancesOfThird
