-- The kind of a file by its mode.
use Rattle.std.specs.Prelude.{cond, ℕ, ◌/◌, ◌%◌, eqb, Result, Ok, Err}
use Rattle.std.specs.Fs.{metadata_mode}
use Rattle.std.specs.declared.fs.attrs.Metadata.{Metadata}
use Rattle.file_kinds.specs.declared.FileKind.{FileKind}

-- The kind by the file type, in octal 04 for a directory, 010 for a regular file and 012 for a link (POSIX's S_IFDIR, S_IFREG and S_IFLNK).
-- No file has the type 0.
abbrev pub of_type : ℕ → FileKind
of_type t =
    cond (eqb t 0) FileKind.Nothing
    (cond (eqb t 4) FileKind.Directory
    (cond (eqb t 8) FileKind.Regular
    (cond (eqb t 10) FileKind.Link
    FileKind.Other)))

-- the file type is four bits of the mode (S_IFMT), above the twelve of the permissions
abbrev pub kind_of : ℕ → FileKind
kind_of mode = of_type (mode / 4096 % 16)

-- the mode that a call told, or 0 where it failed
abbrev pub told_mode : {E : Type 0} → Result Metadata E → ℕ
told_mode (Ok told) = metadata_mode told
told_mode (Err e) = 0
