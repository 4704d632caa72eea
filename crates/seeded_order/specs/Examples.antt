pub mod StreamsOf42
