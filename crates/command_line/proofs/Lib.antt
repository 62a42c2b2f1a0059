mod CaptureLine
mod CommandLine
mod JoinLine
mod Operands
mod PlayLine
mod RouteLine
mod TablesLine
mod Forms
