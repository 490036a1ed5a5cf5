-- Laws of `Wrote`: a text by another name under a wider bound, and one text after another. Assumes nothing.
use native.Mathlib.Omega.{arith}
use Prim.Native.Nat.{ℕ, ◌≤◌, ◌+◌}
use mathlib.Core.Path.{◌≡◌, ap, ◌∙◌, sym}
use mathlib.Core.List.{List, ◌++◌, append_assoc}
use lib.ListN.{take}
use Rattle.pick_text.specs.declared.fields.Text.{Text}
use Rattle.pick_text.specs.Printed.{Wrote}

pub wider : {a b : Text} {t u : List ℕ} {k m : ℕ} → Wrote a t k b → u ≡ t → k ≤ m → Wrote a u m b
wider {a} w e h =
    record {
      same_buffer = w.same_buffer;
      is = w.is ∙ ap (λ (l : List ℕ). take a.at a.out.now ++ l) (sym e);
      no_more = omega (arith, w.no_more);
      long = w.long;
    }

pub then : {a b c : Text} {t u : List ℕ} {k m : ℕ} → Wrote a t k b → Wrote b u m c → Wrote a (t ++ u) (k + m) c
then {a} {b} {c} {t} {u} v w =
    record {
      same_buffer = w.same_buffer ∙ v.same_buffer;
      is = w.is ∙ ap (λ (l : List ℕ). l ++ u) v.is ∙ append_assoc (take a.at a.out.now) t u;
      no_more = omega (arith, v.no_more, w.no_more);
      long = w.long ∙ v.long;
    }
