pub mod ExactBoth
