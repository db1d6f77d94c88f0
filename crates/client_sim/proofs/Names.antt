-- An image has one list of names and unique objects, and a client leaves them where they are.
pub mod OnePictureLaws
pub mod ObjectRunLaws
