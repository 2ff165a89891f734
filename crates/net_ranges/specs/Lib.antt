pub mod TraceLines
