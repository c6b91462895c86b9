-- How the program ends where the system can't give its words.
use Rattle.std.specs.Prelude.{ℕ}
use Rattle.std.specs.declared.io.ErrorKind.{ErrorKind}
use Rattle.std.specs.declared.io.ErrorKind.TheVariants.{OutOfMemory}

-- want of memory, or another error
abbrev pub status_without_words : ErrorKind → ℕ
status_without_words OutOfMemory = 7
status_without_words _ = 10
