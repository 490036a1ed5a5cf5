pub mod NoValues
