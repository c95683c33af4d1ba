-- What a call tells of how its walks ended.
--   told_stop w n i s   == of the walk where they stop, of n pieces and with the index i: the header that the piece s shows; or undecided where there is none
--   told_of w r         == of headers of w positions: that all walks are covered; else the decision of the walk where they stop, with its index, and
--                          the header that its piece shows where it survives
use Rattle.std.specs.Prelude.{ℕ, List, Option, Some, None, Result, Ok, Err, take}
use Rattle.model.specs.Walk.{empty, undecided, member}
use Rattle.format.specs.Bytes.{codes}
use Rattle.format.specs.Told.{Told, deciding}
use Rattle.visits.specs.declared.allowance.Allowance.{Allowance}
use Rattle.walk.specs.declared.stop.Stop.{Stop}

abbrev pub told_stop : ℕ → ℕ → ℕ → Option (List ℕ) → Told
told_stop w n i None = deciding w (undecided n i)
told_stop w n i (Some p) = deciding w (member n i (take w (codes p)))

abbrev pub told_of : ℕ → Result Allowance Stop → Told
told_of w (Ok left) = deciding w (empty left.spent)
told_of w (Err x) = told_stop w x.spent x.index x.survivor
