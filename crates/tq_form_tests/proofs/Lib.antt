pub mod BenchLemmas
