-- What stays of a record of which each fix is changed.
use Rattle.std.specs.Prelude.{◌≡◌, List, ℕ, length}
use Rattle.format.specs.Format.{length_field, kind_field, mark_field, count_field}

-- two buffers of one size, whose heads say the same
pub record SameHead (b c : List ℕ) : Type 0 where
  pub same_size : length c ≡ length b
  pub same_length : length_field c ≡ length_field b
  pub same_kind : kind_field c ≡ kind_field b
  pub same_mark : mark_field c ≡ mark_field b
  pub same_count : count_field c ≡ count_field b
