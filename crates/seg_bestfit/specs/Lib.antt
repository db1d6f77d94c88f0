pub mod FreeTree
