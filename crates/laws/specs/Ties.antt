-- What a compound reads of its parts, and that only the term's columns matter (SPECIFICATION, "When a row is better").
-- Assumes nothing.
use Rattle.std.specs.Prelude.{◌≡◌, refl, Bool, true, ◌&&◌, ◌||◌}
use Rattle.std.proofs.Common.{sym, ◌∙◌, ltb-true}
use Rattle.model.specs.declared.{Pair.Pair}
use Rattle.model.specs.declared.Pair.TheVariants.{Pareto, Prior, Both}
use Rattle.model.specs.Term.{Term, base, pair, dual, columns_of}
use Rattle.model.specs.Better.{Row, cell, EqualIn, equal, better}
use Rattle.laws.specs.Bools.{and_l, and_r, eq_z→≡}
use Rattle.laws.specs.Order.{Tie}
use Rattle.laws.specs.Sound.{within}
use Rattle.laws.specs.Masks.{equal_in-local}
use Rattle.laws.specs.Columns.{equal-base, equal-pair, equal-dual, equal-refl, equal-sym, equal-trans}
use Rattle.laws.specs.Columns.{equal-cells}

-- ---- a compound's better

-- Better in a compound, from better (b) and tied (e) in its left and its right part.
unfoldable pub joined : Pair → (bl el br er : Bool) → Bool
joined Pareto bl el br er = bl && (br || er) || br && (bl || el)
joined Prior bl el br er = bl || el && br
joined Both bl el br er = bl && br

-- The tie that a compound of this kind reads of a part: equal in all the part's columns.
unfoldable pub tied : Pair → Term → Row → Row → Bool
tied op t x y = equal t x y

-- Every compound joins better and tied of its parts.
pub better-pair : (op : Pair) (l r : Term) (x y : Row)
    → better (pair op l r) x y ≡ joined op (better l x y) (tied op l x y) (better r x y) (tied op r x y)
unfolding better joined tied
better-pair Pareto l r x y = refl
better-pair Prior l r x y = refl
better-pair Both l r x y = refl

-- DUAL: the rows change places.
pub better-dual : (t : Term) (x y : Row) → better (dual t) x y ≡ better t y x
unfolding better
better-dual t x y = refl

-- ---- rows that are equal in the term's columns stand for each other

-- Equal to the one is equal to the other.
pub equal-local : (t : Term) (x x' y y' : Row) → equal t x x' ≡ true → equal t y y' ≡ true → equal t x y ≡ equal t x' y'
unfolding equal
equal-local t x x' y y' p q = equal_in-local (columns_of t) x x' y y' p q

-- Tied to the one is tied to the other.
pub tied-local : (op : Pair) (t : Term) (x x' y y' : Row) → equal t x x' ≡ true → equal t y y' ≡ true
    → tied op t x y ≡ tied op t x' y'
unfolding tied
tied-local op t x x' y y' p q = equal-local t x x' y y' p q

module _ (op : Pair) (l r : Term) (x y : Row) (h : equal (pair op l r) x y ≡ true) where
  left-equal : equal l x y ≡ true
  left-equal = and_l _ (equal r x y) (sym (equal-pair op l r x y) ∙ h)

  right-equal : equal r x y ≡ true
  right-equal = and_r (equal l x y) _ (sym (equal-pair op l r x y) ∙ h)

-- Better than the one is better than the other, for a term over at most 8 columns.
pub better-local : (t : Term) → within 8 t ≡ true → (x x' y y' : Row) → equal t x x' ≡ true → equal t y y' ≡ true
    → better t x y ≡ better t x' y'
unfolding better within
better-local (base column b values) w x x' y y' p q =
    let low = ltb-true column 8 w in
    rw (
      eq_z→≡ (cell x column) (cell x' column) (sym (equal-base column b values low x x') ∙ p),
      eq_z→≡ (cell y column) (cell y' column) (sym (equal-base column b values low y y') ∙ q),
    )
better-local (pair op l r) w x x' y y' p q =
    let pl = left-equal op l r x x' p in
    let pr = right-equal op l r x x' p in
    let ql = left-equal op l r y y' q in
    let qr = right-equal op l r y y' q in
    better-pair op l r x y
    ∙ joined_same op (better-local l (and_l _ (within 8 r) w) x x' y y' pl ql) (tied-local op l x x' y y' pl ql)
    (better-local r (and_r (within 8 l) _ w) x x' y y' pr qr) (tied-local op r x x' y y' pr qr)
    ∙ sym (better-pair op l r x' y')
  where
    joined_same : (op : Pair) {a b c d a' b' c' d' : Bool} → a ≡ a' → b ≡ b' → c ≡ c' → d ≡ d'
        → joined op a b c d ≡ joined op a' b' c' d'
    joined_same op e f g h = rw (e, f, g, h)
better-local (dual t) w x x' y y' p q =
    better-local t w y y' x x' (sym (equal-dual t y y') ∙ q) (sym (equal-dual t x x') ∙ p)

-- Only the cells whose bit is set in the term's mask matter.
pub better-cells : (t : Term) → within 8 t ≡ true → (x x' y y' : Row)
    → EqualIn (columns_of t) x x' → EqualIn (columns_of t) y y' → better t x y ≡ better t x' y'
better-cells t w x x' y y' p q = better-local t w x x' y y' ((equal-cells t x x').1 p) ((equal-cells t y y').1 q)

-- ---- ties

-- Equal in the term's columns is a tie that better respects.
pub equal-ties : (t : Term) → within 8 t ≡ true → Tie (better t) (equal t)
equal-ties t w =
    record {
      self = equal-refl t;
      turn = equal-sym t;
      chain = equal-trans t;
      before = λ x y z e b. better-local t w x y z z e (equal-refl t z) ∙ b;
      after = λ x y z b e. sym (better-local t w x x y z (equal-refl t x) e) ∙ b;
    }

-- So is the tie that a compound of any kind reads.
pub tied-ties : (t : Term) → within 8 t ≡ true → (op : Pair) → Tie (better t) (tied op t)
unfolding tied
tied-ties t w op = equal-ties t w
