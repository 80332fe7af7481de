pub mod ExactDay
