-- Ranks by block, as a loop over records and one over blocks fill them in. Assumes nothing.
use mathlib.Core.Path.{◌≡◌, refl, sym, ◌∙◌, subst}
use mathlib.Core.Logic.{⊎_elim}
use mathlib.Core.Bool.{Bool, true, false}
use mathlib.Core.List.{List}
use Prim.Native.Nat.{ℕ, ◌+◌, ◌*◌, ◌<◌, ◌≤◌}
use native.Mathlib.Omega.{arith}
use lib.IntN.{ℤ, pos}
use lib.ListN.{get_or}
use Rattle.model.specs.declared.{BaseTerm.BaseTerm, Record.Record}
use Rattle.model.specs.declared.Record.TheVariants.{Base, Compound, Unknown}
use Rattle.model.specs.Record.{record_at}
use Rattle.model.specs.Better.{cell}
use Rattle.model.specs.Query.{row_at}
use Rattle.laws.specs.Search.{lt-suc-cases}
use Rattle.rows.specs.Places.{place-apart}
use Rattle.rows.specs.Stretch.{Stretch}
use Rattle.ranks.specs.Rank.{RankAt}
use Rattle.ranks.specs.Ranked.{Ranked, RankOf, Ranking}

-- What a record says of a rank, and nothing where it is no base record.
abbrev RankBy : List ℕ → ℕ → ℕ → List ℤ → ℤ → Record → Type 0
RankBy table k e row x (Record.Value a) = Unit {0}
RankBy table k e row x (Base column t) = RankAt table k e t (cell row column) x
RankBy table k e row x (Compound c) = Unit {0}
RankBy table k e row x Unknown = Unit {0}

-- ---- a loop that fills in the ranks of record k by blocks

module _ (Q : ℕ → ℤ → Type 0) (n stride k : ℕ) (before : List ℤ) where
  -- No block yet.
  pub ranking-none : Ranking Q n stride k 0 before before
  ranking-none = record { kept = λ a j h l m. refl; here = λ a j l m o. absurd (omega (arith, o)) }

  -- One block more.
  pub ranking-more : k * 64 + 64 ≤ stride → (b m : ℕ) → m ≤ 64 → ((j : ℕ) → j < 64 → b * 64 + j < n → j < m)
      → {list after : List ℤ} → Stretch (λ j y. Q (b * 64 + j) y) m (b * stride + k * 64) list after → Ranking Q n stride k b before list
      → Ranking Q n stride k (b + 1) before after
  ranking-more w b m most all {list} {after} s r =
      record {
        kept = λ a j h l o. apart a j h l (omega (arith, o, w)) (λ i u x y. omega (arith, o, x)) ∙ r.kept a j h l o;
        here = λ a j l o q. ⊎_elim
            (λ u. subst (Q (a * 64 + j)) (sym (apart a j k l w (λ i v x y. omega (arith, u, l, y)))) (r.here a j l o u))
            (λ u. new a j l o u)
            (lt-suc-cases a b (omega (arith, q)));
      }
    where
      apart : (a j h : ℕ) → j < 64 → h * 64 + 64 ≤ stride → ((i : ℕ) → i < m → h ≡ k → a * 64 + j ≡ b * 64 + i → ⊥)
          → get_or after (a * stride + h * 64 + j) (pos 0) ≡ get_or list (a * stride + h * 64 + j) (pos 0)
      apart a j h l u never =
          s.kept (a * stride + h * 64 + j)
          (λ i v e. let d = place-apart stride a h j b k i l (omega (arith, v, most)) u w e in never i v d.0 d.1)

      new : (a j : ℕ) → j < 64 → a * 64 + j < n → a ≡ b → Q (a * 64 + j) (get_or after (a * stride + k * 64 + j) (pos 0))
      new a j l o u = rw u (s.here j (all j l (rw u at o)))

module _ {table ends : List ℕ} {marks : List Bool} {columns : ℕ} {rows : List ℤ} {n stride k : ℕ} where
  -- The ranks of record k besides those that were.
  pub ranked-all : {column : ℕ} {t : BaseTerm} (b : ℕ) {before after : List ℤ} → record_at table k ≡ Base column t → n ≤ b * 64
      → Ranking (RankOf table k (get_or ends k 0) t columns rows column) n stride k b before after
      → Ranked table ends marks columns rows n stride k before → Ranked table ends marks columns rows n stride (k + 1) after
  ranked-all {column} {t} b {before} {after} e f p r =
      record {
        each = λ a j h column' t' l m o d e'. ⊎_elim
            (λ q. subst (RankAt table h (get_or ends h 0) t' (cell (row_at columns rows (a * 64 + j)) column')) (sym (p.kept a j h l q))
            (r.each a j h column' t' l m q d e'))
            (λ q. last a j h column' t' l m q e')
            (lt-suc-cases h k (omega (arith, o)));
      }
    where
      last : (a j h column' : ℕ) (t' : BaseTerm) → j < 64 → a * 64 + j < n → h ≡ k → record_at table h ≡ Base column' t'
          → RankAt table h (get_or ends h 0) t' (cell (row_at columns rows (a * 64 + j)) column')
          (get_or after (a * stride + h * 64 + j) (pos 0))
      last a j h column' t' l m q e' =
          rw q (subst (RankBy table k (get_or ends k 0) (row_at columns rows (a * 64 + j)) (get_or after (a * stride + k * 64 + j) (pos 0)))
          (sym e ∙ rw q at e') (p.here a j l m (omega (arith, f, m))))

module _ {table ends : List ℕ} {marks : List Bool} {columns : ℕ} {rows : List ℤ} {n stride k : ℕ} {ranks : List ℤ} where
  -- A record that is not marked, or is no base record, has no ranks.
  pub ranked-other : ((column : ℕ) (t : BaseTerm) → get_or marks k false ≡ true → record_at table k ≡ Base column t → ⊥)
      → Ranked table ends marks columns rows n stride k ranks → Ranked table ends marks columns rows n stride (k + 1) ranks
  ranked-other none r =
      record {
        each = λ b j h column t l m o d e.
            ⊎_elim
            (λ q. r.each b j h column t l m q d e)
            (λ q. absurd (none column t (rw q at d) (rw q at e)))
            (lt-suc-cases h k (omega (arith, o)));
      }
