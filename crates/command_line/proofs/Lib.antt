pub mod CommandLine
pub mod NamedSubcommands
