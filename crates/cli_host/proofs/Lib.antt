pub mod AccessesLaws
