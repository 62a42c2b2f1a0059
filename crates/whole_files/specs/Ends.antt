-- How a command ends whose outputs are files.
use Rattle.std.specs.Prelude.{Bool, Err, Ok, Option, Some, None}
use Rattle.std.specs.declared.io.ErrorKind.{ErrorKind}
use Rattle.std.specs.declared.io.ErrorKind.TheVariants.{OutOfMemory}
use Rattle.at_base.specs.declared.error.Error.{Error}
use Rattle.at_base.specs.declared.error.Error.TheVariants.{Memory, WriteFault}
use Rattle.whole_files.specs.declared.placing.Ended.{Ended}
use Rattle.whole_files.specs.declared.placing.Unwritten.{Unwritten}
use Rattle.whole_files.specs.declared.placing.Unwritten.TheVariants.{Image, Capture}

-- The error of an output that couldn't be written: `Memory` where that ran out.
abbrev pub error_of : ErrorKind → Error
error_of OutOfMemory = Memory
error_of kind = WriteFault

-- Why an output couldn't be written.
abbrev pub kind_of : Unwritten → ErrorKind
kind_of (Image kind) = kind
kind_of (Capture kind) = kind

-- The output a write of which failed, if one did: the image, with its reason, only where the capture didn't fail.
abbrev pub lost : Option ErrorKind → Option ErrorKind → Option Unwritten
lost image (Some kind) = Some (Capture kind)
lost (Some kind) None = Some (Image kind)
lost None None = None

-- The end of a command one of whose outputs couldn't be written.
abbrev pub missed : Unwritten → Ended
missed unwritten = record { answer = Err (error_of (kind_of unwritten)); unwritten = Some unwritten }

-- The end of a command with this error: where a write failed, with the output that it was of, if it was of one.
abbrev pub refused : Error → Option Unwritten → Ended
refused WriteFault (Some unwritten) = missed unwritten
refused error lost = record { answer = Err error; unwritten = None }

-- The end of a command with this verdict, all of whose outputs are in their places.
abbrev pub kept : Bool → Ended
kept verdict = record { answer = Ok verdict; unwritten = None }
