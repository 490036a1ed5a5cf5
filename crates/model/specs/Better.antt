-- When one row is better than another (SPECIFICATION, "When a row is better"). `better t x y` reads "y is better than
-- x".
use Rattle.std.specs.Prelude.{◌≡◌, ◌&&◌, ◌||◌, ◌<◌, ◌∷◌, ◌-ℤ◌}
use mathlib.Core.List.{Memᴰ}
use Rattle.model.specs.Words.{Bool, true, false, not, cond, ℕ, List, [], ltb, eqb, ℤ, pos, nat_abs, get_or, lt_z, Value, BaseTerm, Lowest, Highest, Around, Between, Pos, Neg}
use Rattle.model.specs.Words.{PosNeg, PosPos, Explicit, Any, Pareto, Prior, Both}
use Rattle.model.specs.Search.{any_below, any_in}
use Rattle.model.specs.Bytes.{bit, eq_z}
use Rattle.model.specs.Term.{Term, columns_of, base, pair, dual}

-- Distance is the exact difference to the wish,
unfoldable pub distance : ℤ → ℤ → ℕ
distance wish x = nat_abs (x -ℤ wish)

-- or to the nearer bound and 0 inside.
unfoldable pub distance_between : ℤ → ℤ → ℤ → ℕ
distance_between low up x = cond (lt_z x low) (distance low x) (cond (lt_z up x) (distance up x) 0)

-- x stands among the values in that role.
unfoldable pub in_role : ℕ → List Value → ℤ → Bool
in_role role values x = any_in values (λ a. eqb a.role role && eq_z x a.u)

-- Roles: 1 favourite, 2 disliked, 3 second choice.
unfoldable pub favourite : List Value → ℤ → Bool
favourite values x = in_role 1 values x

unfoldable pub disliked : List Value → ℤ → Bool
disliked values x = in_role 2 values x

unfoldable pub second_choice : List Value → ℤ → Bool
second_choice values x = in_role 3 values x

-- In neither of two roles.
unfoldable pub other_than : ℕ → ℕ → List Value → ℤ → Bool
other_than role role' values x = not (in_role role values x || in_role role' values x)

-- The best class, then the middle one, then the last: y stands in an earlier class than x.
unfoldable pub in_order : (ℤ → Bool) → (ℤ → Bool) → (ℤ → Bool) → ℤ → ℤ → Bool
in_order best middle last x y = (middle x || last x) && best y || last x && middle y

-- y can be reached from x by one edge or more (u worse, v better): without the first edge of the list, or over it. Over
-- it, x is its beginning or reaches that by the other edges, and y is its end or reached from that by the other edges;
-- no path need take an edge twice.
unfoldable pub reaches : List Value → ℤ → ℤ → Bool
reaches [] x y = false
reaches (e ∷ edges) x y =
    reaches edges x y
    || (eq_z x e.u || reaches edges x e.u) && (eq_z y e.v || reaches edges e.v y)

-- The same as a path: one edge or more, each beginning where the one before it ends. Contracts cite `reaches`; that it
-- is true exactly where there is a path is the theorem `reaches_is_path` of `theorems`.
pub data ByEdges (edges : List Value) : ℤ → ℤ → Type 0 where
  step : {e : Value} → Memᴰ e edges → ByEdges edges e.u e.v
  more : {e : Value} {y : ℤ} → Memᴰ e edges → ByEdges edges e.v y → ByEdges edges e.u y

-- x is in some edge.
unfoldable pub in_edge : List Value → ℤ → Bool
in_edge edges x = any_in edges (λ e. eq_z x e.u || eq_z x e.v)

-- y is better than x under a base term with these values. POS/NEG: favourites, then others, then disliked. POS/POS:
-- favourites, then second choices, then others. (No value is in two of these: CLASH.)
unfoldable pub better_value : BaseTerm → List Value → ℤ → ℤ → Bool
better_value Lowest values x y = lt_z y x
better_value Highest values x y = lt_z x y
better_value (Around wish) values x y = ltb (distance wish y) (distance wish x)
better_value (Between low up) values x y = ltb (distance_between low up y) (distance_between low up x)
better_value Pos values x y = not (favourite values x) && favourite values y
better_value Neg values x y = disliked values x && not (disliked values y)
better_value PosNeg values x y = in_order (favourite values) (other_than 1 2 values) (disliked values) x y
better_value PosPos values x y = in_order (favourite values) (second_choice values) (other_than 1 3 values) x y
better_value Explicit edges x y = reaches edges x y || not (in_edge edges x) && in_edge edges y
better_value Any values x y = false

-- A row: a value for each column.
abbrev pub Row : Type 0
Row = List ℤ

-- A row's value in a column.
unfoldable pub cell : Row → ℕ → ℤ
cell x column = get_or x column (pos 0)

-- Equal in all columns of a mask: no column whose bit is set differs.
unfoldable pub equal_in : ℕ → Row → Row → Bool
equal_in mask x y = not (any_below 8 (λ j. bit mask j && not (eq_z (cell x j) (cell y j))))

-- The same as a type: the theorem `equal_is_cells` of `theorems` says that they agree.
abbrev pub EqualIn : ℕ → Row → Row → Type 0
EqualIn mask x y = (j : ℕ) → j < 8 → bit mask j ≡ true → cell x j ≡ cell y j

-- Equal in all the term's columns.
unfoldable pub equal : Term → Row → Row → Bool
equal t x y = equal_in (columns_of t) x y

-- PARETO: better in one part and, in the other, better or equal in all that part's columns.
-- PRIOR: better in the left; or equal in all columns of the left and better in the right. Here the specification
-- decides: the report's Proposition 4(b) writes a disjoint union; this is the plain union of the two.
-- BOTH: better in both parts. DUAL: x and y change places.
unfoldable pub better : Term → Row → Row → Bool
better (base column b values) x y = better_value b values (cell x column) (cell y column)
better (pair Pareto l r) x y =
    better l x y && (better r x y || equal r x y) || better r x y && (better l x y || equal l x y)
better (pair Prior l r) x y = better l x y || equal l x y && better r x y
better (pair Both l r) x y = better l x y && better r x y
better (dual t) x y = better t y x
