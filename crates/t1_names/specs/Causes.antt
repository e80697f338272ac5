-- Why a system can't read or write a file.
use Rattle.std.specs.Prelude.{ℕ, List, [], codes, Option, None, Some, Result, Ok, Err}
use Rattle.std.specs.Global.{Global}
use Rattle.std.specs.IoError.{error_kind}
use Rattle.std.specs.declared.io.Error.{Error}
use Rattle.std.specs.declared.io.ErrorKind.{ErrorKind}
use Rattle.std.specs.declared.io.ErrorKind.TheVariants as kinds
use Rattle.std.specs.declared.vec.Vec.{Vec}
use Rattle.t1_names.specs.declared.causes.Cause.{Cause}
use Rattle.t1_names.specs.declared.causes.Cause.TheVariants.{IsFolder, NoFile, NoMemory, NoPermission, NoSpace, NotInFolder, NotRegular, ReadOnly, Unknown}

-- The cause of an error of a kind.
abbrev pub cause_of : ErrorKind → Cause
cause_of kinds.NotFound = NoFile
cause_of kinds.PermissionDenied = NoPermission
cause_of kinds.IsADirectory = IsFolder
cause_of kinds.NotADirectory = NotInFolder
cause_of kinds.InvalidInput = NotRegular
cause_of kinds.ReadOnlyFilesystem = ReadOnly
cause_of kinds.StorageFull = NoSpace
cause_of kinds.OutOfMemory = NoMemory
cause_of _ = Unknown

-- What is said of it behind a message.
abbrev pub cause_text : Cause → List ℕ
cause_text NoFile = codes ": no such file or folder"
cause_text NoPermission = codes ": permission is denied"
cause_text IsFolder = codes ": it is a folder"
cause_text NotInFolder = codes ": a part of its name is no folder"
cause_text NotRegular = codes ": it is no regular file"
cause_text ReadOnly = codes ": the file system is read-only"
cause_text NoSpace = codes ": the disk is full"
cause_text NoMemory = codes ": out of memory"
cause_text Unknown = []

-- Why a text couldn't be put in the place of a file, if it couldn't.
abbrev pub put_failure : Result (Unit {0}) Error → Option Cause
put_failure (Ok done) = None
put_failure (Err error) = Some (cause_of (error_kind error))

-- The text that was read, or why none was.
abbrev pub text_read : Result (Vec ℕ Global) Error → Result (List ℕ) Cause
text_read (Ok bytes) = Ok bytes.items
text_read (Err error) = Err (cause_of (error_kind error))
