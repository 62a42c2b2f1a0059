-- The exit of each outcome.
use Rattle.std.specs.Prelude.{ℕ, true, false, Ok, Err, Some, None}
use Rattle.std.specs.declared.io.ErrorKind.TheVariants.{OutOfMemory}
use Rattle.clap.specs.declared.error.ErrorKind.TheVariants.{DisplayHelp, DisplayVersion, OutOfMemory as ParseOutOfMemory}
use Rattle.at_base.specs.ErrorNumber.{number_of}
use Rattle.at_base.specs.declared.error.Error.{Error}
use Rattle.at_base.specs.declared.error.Error.TheVariants.{Memory, ReadFault, WriteFault}
use Rattle.command_line.specs.Status.{status_of}
use Rattle.command_line.specs.declared.exit.Exit.{Exit}
use Rattle.command_line.specs.declared.exit.Outcome.{Outcome}
use Rattle.command_line.specs.declared.exit.Outcome.TheVariants.{NoArguments, NoJob, NotOpened, NotCreated, Answered}

-- The exit of an error: its status and its number.
abbrev pub refused : Error → Exit
refused e = record { status = status_of (Err e); refusal = Some (number_of e) }

-- An exit with only a status.
abbrev pub silent : ℕ → Exit
silent s = record { status = s; refusal = None }

-- The exit of an outcome.
abbrev pub exit_at : Outcome → Exit
exit_at (NoArguments OutOfMemory) = refused Memory
exit_at (NoArguments kind) = silent 2
exit_at (NoJob ParseOutOfMemory printed) = refused Memory
exit_at (NoJob DisplayHelp true) = silent 0
exit_at (NoJob DisplayHelp false) = refused WriteFault
exit_at (NoJob DisplayVersion true) = silent 0
exit_at (NoJob DisplayVersion false) = refused WriteFault
exit_at (NoJob kind printed) = silent 2
exit_at (NotOpened kind) = refused ReadFault
exit_at (NotCreated kind) = refused WriteFault
exit_at (Answered (Ok verdict)) = silent (status_of (Ok verdict))
exit_at (Answered (Err e)) = refused e
