pub mod Generic
