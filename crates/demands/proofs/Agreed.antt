-- Two queries that differ in their buffers alone, and tests of their replies and buffers. Assumes nothing.
use mathlib.Core.Path.{◌≡◌, sym, ◌∙◌, ap}
use mathlib.Core.Bool.{Bool, true, ◌&&◌}
use mathlib.Core.List.{List}
use Prim.Native.Nat.{ℕ}
use lib.IntN.{ℤ}
use Rattle.std.specs.Prelude.{Decides}
use Rattle.std.proofs.lemmas.Bool.Decides.{same_from_decides}
use Rattle.model.specs.Words.{QueryReply}
use Rattle.model.specs.Query.{query_reply, query_buffer}
use Rattle.laws.specs.Bools.{and_i}
use Rattle.demands.specs.Agreement.{same_reply, same_entries, same-reply-is, same-entries-is}

-- What both tests together say, where each engine replies x or y and leaves a' or b' in its buffer.
pub agreed : (table : List ℕ) (columns : ℕ) (rows : List ℤ) (term group : ℕ) (a b a' b' : List ℕ) (x y : QueryReply)
    → x ≡ query_reply table columns rows term group a → a' ≡ query_buffer table columns rows term group a
    → y ≡ query_reply table columns rows term group b → b' ≡ query_buffer table columns rows term group b
    → (replies entries : Bool) → Decides replies (x ≡ y) → Decides entries (a' ≡ b')
    → ((replies && entries)
    ≡ (same_reply (query_reply table columns rows term group a) (query_reply table columns rows term group b)
    && same_entries (query_buffer table columns rows term group a) (query_buffer table columns rows term group b)))
    × (a' ≡ query_buffer table columns rows term group a)
    × (b' ≡ query_buffer table columns rows term group b)
    × (a ≡ b → ((replies && entries) ≡ true) × (a' ≡ b'))
agreed table columns rows term group a b a' b' x y ex ea ey eb replies entries r s = (
  rw (
    same_from_decides replies (same_reply x y) r (same-reply-is x y),
    same_from_decides entries (same_entries a' b') s (same-entries-is a' b'),
    ex,
    ea,
    ey,
    eb,
  ),
  ea,
  eb,
  λ e. let same : a' ≡ b' = ea ∙ ap (λ (l : List ℕ). query_buffer table columns rows term group l) e ∙ sym eb in
      let alike : x ≡ y = ex ∙ ap (λ (l : List ℕ). query_reply table columns rows term group l) e ∙ sym ey in (
        and_i (r.1 alike) (s.1 same),
        same,
      ),
)
