-- What a prefix constraint is answered.
--   prefix-refused        the width or the field is refused
--   prefix-long           the prefix is longer than the field
--   prefix-bits-refused   the value is refused
--   prefix-within, prefix-covered   an accepted prefix lies in the header, and the value has its bits
--   prefix-short          there is no room for the cube
--   prefix-written        the cube is written
use Prim.Native.Nat.{ℕ, ◌+◌, ◌≤◌, ◌<◌}
use native.Mathlib.Omega.{arith}
use Rattle.std.specs.Prelude.{Ok, Err}
use mathlib.Core.Path.{◌≡◌, refl, sym, ap, ◌∙◌}
use mathlib.Core.List.{List}
use lib.ListN.{length}
use Rattle.model.specs.Fields.{prefix_cube}
use Rattle.answer.specs.declared.Answer.{Answer}
use Rattle.answer.specs.Answer.{accepted, refused, wrote}
use Rattle.answer.specs.Refusals.{Tested}
use Rattle.format.specs.Rows.{outcome}
use Rattle.format.specs.Bytes.{cube_len, bits, write_cube}
use Rattle.format.specs.Told.{Told, bits_tests, silent, writing}
use Rattle.format.specs.Calls.{prefix}
use Rattle.format.proofs.Reached.{reached, skipped}
use Rattle.format.proofs.Heading.{length-bits}
use Rattle.format.proofs.Lending.{bits-refused, bits-passed, bits-lent}
use Rattle.fields.specs.Bounds.{field_tests}
use Rattle.fields.proofs.Fielding.{prefix-size}
use Rattle.fields.proofs.Bounding.{FieldIn, field-refused}

module _ (w s n m : ℕ) (v : List ℕ) (room : ℕ) where
  pub prefix-refused : (r : Answer) → Tested (outcome (field_tests w s n)) (Err r) → silent r ≡ prefix w s n m v room
  unfolding prefix
  prefix-refused r t = field-refused w s n r t _

  module _ (f : FieldIn w s n) where
    pub prefix-long : n < m → silent (refused 21) ≡ prefix w s n m v room
    unfolding prefix
    prefix-long h = reached 4 _ (omega (arith, f))

    module _ (g : m ≤ n) where
      pub prefix-bits-refused : (r : Answer) → Tested (outcome (bits_tests n m v)) (Err r) → silent r ≡ prefix w s n m v room
      unfolding prefix
      prefix-bits-refused r t = bits-refused n m v r t.0 _ t.1 ∙ skipped 5 _ (omega (arith, f, g))

      module _ (t : Tested (outcome (bits_tests n m v)) (Ok tt)) where
        pub prefix-within : s + m ≤ w
        prefix-within = omega (arith, f, g)

        pub prefix-covered : m ≤ length (bits v)
        prefix-covered = let value = bits-lent n m v accepted (sym t) refl in rw (length-bits v) (omega (arith, value.0, g))

        size : length (write_cube (prefix_cube w s m (bits v))) ≡ cube_len w
        size = prefix-size w s m (bits v) prefix-within prefix-covered

        goes-on : outcome (writing (write_cube (prefix_cube w s m (bits v))) room) ≡ prefix w s n m v room
        unfolding prefix
        goes-on = bits-passed n m v accepted (sym t) _ refl ∙ skipped 5 _ (omega (arith, f, g))

        pub prefix-short : room < cube_len w → silent (refused 22) ≡ prefix w s n m v room
        prefix-short h = reached 0 _ (rw size h) ∙ goes-on

        pub prefix-written : cube_len w ≤ room → record { answer = wrote (cube_len w); bytes = write_cube (prefix_cube w s m (bits v)) } ≡ prefix w s n m v room
        prefix-written h =
            let told : ℕ → Told = λ k. record { answer = wrote k; bytes = write_cube (prefix_cube w s m (bits v)) } in
            ap told (sym size) ∙ reached 1 _ (rw size h, tt) ∙ goes-on
