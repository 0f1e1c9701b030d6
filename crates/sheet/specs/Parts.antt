-- What the functions below the two of the sheet read and write.
use Rattle.std.specs.Prelude.{Bool, true, false}
use Rattle.std.proofs.Math.Option.{Option, some, none}
use Rattle.sheet.specs.declared.Command.{Command}
use Rattle.sheet.specs.declared.Command.TheVariants as C
use Rattle.sheet.specs.declared.Word.{Word}
use Rattle.sheet.specs.declared.Word.TheVariants as W
use Rattle.sheet.specs.Words.{Verb, is_start, is_put, is_get, is_commit, is_step, is_abort, is_collect, is_cut}

-- the verb that a word of the code stands for
unfoldable pub verb_of : Word → Option Verb
verb_of W.Start = some is_start
verb_of W.Put = some is_put
verb_of W.Get = some is_get
verb_of W.Commit = some is_commit
verb_of W.Step = some is_step
verb_of W.Abort = some is_abort
verb_of W.Collect = some is_collect
verb_of W.Cut = some is_cut
verb_of W.Unknown = none

-- a command, if the fields that it does not use are 0
unfoldable pub only_if : Bool → Command → Command
only_if true c = c
only_if false c = C.Malformed
