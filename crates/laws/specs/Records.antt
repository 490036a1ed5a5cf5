-- A record's number and fields read back from what it stands for (SPECIFICATION, "The table"). Assumes nothing.
use Rattle.std.specs.Prelude.{◌≡◌, Bool, true, false, cond, List, ℕ, ◌+◌, ◌*◌, ◌<◌, eqb, ℤ}
use Rattle.std.proofs.Math.Path.{refl, ap}
use Rattle.std.proofs.Common.{sym, ◌∙◌, true≢false, arith, eqb-true}
use Rattle.model.specs.declared.{Record.Record, Value.Value, BaseTerm.BaseTerm, Pair.Pair, CompoundTerm.CompoundTerm}
use Rattle.model.specs.declared.BaseTerm.TheVariants.{Lowest, Highest, Around, Between, Pos, Neg, PosNeg, PosPos}
use Rattle.model.specs.declared.BaseTerm.TheVariants.{Explicit, Any}
use Rattle.model.specs.declared.Pair.TheVariants.{Pareto, Prior, Both}
use Rattle.model.specs.Bytes.{byte_at, word_at, Value32}
use Rattle.model.specs.Record.{record_of, record_at, kind_at, p_at, q_at, u_at, v_at}
use Rattle.model.specs.Check.{fails_kind}
use Rattle.laws.specs.Values.{signed-small}

-- The kind's number.
unfoldable pub kind_number : Record → ℕ
kind_number (Record.Value a) = 0
kind_number (Record.Base column Lowest) = 1
kind_number (Record.Base column Highest) = 2
kind_number (Record.Base column (Around wish)) = 3
kind_number (Record.Base column (Between low up)) = 4
kind_number (Record.Base column Pos) = 5
kind_number (Record.Base column Neg) = 6
kind_number (Record.Base column PosNeg) = 7
kind_number (Record.Base column PosPos) = 8
kind_number (Record.Base column Explicit) = 9
kind_number (Record.Base column Any) = 10
kind_number (Record.Compound (CompoundTerm.Joined Pareto p q)) = 16
kind_number (Record.Compound (CompoundTerm.Joined Prior p q)) = 17
kind_number (Record.Compound (CompoundTerm.Joined Both p q)) = 18
kind_number (Record.Compound (CompoundTerm.Dual p)) = 19
kind_number Record.Unknown = 0

-- The number is the kind where the kind is known.
abbrev Known : ℕ → Record → Type 0
Known kind r = fails_kind r ≡ false → kind ≡ kind_number r

one-kind : (kind n : ℕ) (r rest : Record) → kind_number r ≡ n → Known kind rest → Known kind (cond (eqb kind n) r rest)
one-kind kind n r rest e f = go (eqb kind n) refl
  where
    go : (b : Bool) → eqb kind n ≡ b → Known kind (cond b r rest)
    go true t h = eqb-true kind n t ∙ sym e
    go false t h = f h

kind-known : (kind p q : ℕ) (u v : ℤ) → Known kind (record_of kind p q u v)
unfolding record_of kind_number
kind-known kind p q u v =
    one-kind kind 0 _ _ refl
    (one-kind kind 1 _ _ refl
    (one-kind kind 2 _ _ refl
    (one-kind kind 3 _ _ refl
    (one-kind kind 4 _ _ refl
    (one-kind kind 5 _ _ refl
    (one-kind kind 6 _ _ refl
    (one-kind kind 7 _ _ refl
    (one-kind kind 8 _ _ refl
    (one-kind kind 9 _ _ refl
    (one-kind kind 10 _ _ refl
    (one-kind kind 16 _ _ refl
    (one-kind kind 17 _ _ refl
    (one-kind kind 18 _ _ refl
    (one-kind kind 19 _ _ refl (λ h. absurd (true≢false h))))))))))))))))

module _ (table : List ℕ) (k : ℕ) where
  -- The kind of a record that stands for something.
  pub kind-of : (r : Record) → record_at table k ≡ r → fails_kind r ≡ false → kind_at table k ≡ kind_number r
  unfolding record_at
  kind-of r e h =
      kind-known (kind_at table k) (p_at table k) (q_at table k) (u_at table k) (v_at table k) (rw e h) ∙ ap kind_number e

  -- The record again, from its kind's number and its fields.
  pub fields-of : (r : Record) → record_at table k ≡ r → fails_kind r ≡ false
      → record_of (kind_number r) (p_at table k) (q_at table k) (u_at table k) (v_at table k) ≡ r
  unfolding record_at
  fields-of r e h = rw (← (kind-of r e h)) e

  -- A value's fields are p, u and v.
  pub value-fields : (a : Value) → record_at table k ≡ Record.Value a
      → (a.role ≡ p_at table k) × (a.u ≡ u_at table k) × (a.v ≡ v_at table k)
  unfolding record_of kind_number
  value-fields a e =
      let b : Value = record { role = p_at table k; u = u_at table k; v = v_at table k } in
      let f : Record.Value b ≡ Record.Value a = fields-of (Record.Value a) e refl in
      (cc, (cc), (cc))

  -- A base term's column is p.
  pub base-column : (column : ℕ) (b : BaseTerm) → record_at table k ≡ Record.Base column b → column ≡ p_at table k
  unfolding record_of kind_number
  base-column column Lowest e = cc (fields-of (Record.Base column Lowest) e refl)
  base-column column Highest e = cc (fields-of (Record.Base column Highest) e refl)
  base-column column (Around wish) e = cc (fields-of (Record.Base column (Around wish)) e refl)
  base-column column (Between low up) e = cc (fields-of (Record.Base column (Between low up)) e refl)
  base-column column Pos e = cc (fields-of (Record.Base column Pos) e refl)
  base-column column Neg e = cc (fields-of (Record.Base column Neg) e refl)
  base-column column PosNeg e = cc (fields-of (Record.Base column PosNeg) e refl)
  base-column column PosPos e = cc (fields-of (Record.Base column PosPos) e refl)
  base-column column Explicit e = cc (fields-of (Record.Base column Explicit) e refl)
  base-column column Any e = cc (fields-of (Record.Base column Any) e refl)

  -- AROUND's wish is u.
  pub around-wish : (column : ℕ) (wish : ℤ) → record_at table k ≡ Record.Base column (Around wish) → wish ≡ u_at table k
  unfolding record_of kind_number
  around-wish column wish e = cc (fields-of (Record.Base column (Around wish)) e refl)

  -- BETWEEN's low and up are u and v.
  pub between-bounds : (column : ℕ) (low up : ℤ) → record_at table k ≡ Record.Base column (Between low up)
      → (low ≡ u_at table k) × (up ≡ v_at table k)
  unfolding record_of kind_number
  between-bounds column low up e = let f = fields-of (Record.Base column (Between low up)) e refl in (cc, (cc))

  -- The parts of a compound of two are p and q.
  pub joined-parts : (op : Pair) (p q : ℕ) → record_at table k ≡ Record.Compound (CompoundTerm.Joined op p q)
      → (p ≡ p_at table k) × (q ≡ q_at table k)
  unfolding record_of kind_number
  joined-parts Pareto p q e = let f = fields-of (Record.Compound (CompoundTerm.Joined Pareto p q)) e refl in (cc, (cc))
  joined-parts Prior p q e = let f = fields-of (Record.Compound (CompoundTerm.Joined Prior p q)) e refl in (cc, (cc))
  joined-parts Both p q e = let f = fields-of (Record.Compound (CompoundTerm.Joined Both p q)) e refl in (cc, (cc))

  -- DUAL's part is p.
  pub dual-part : (p : ℕ) → record_at table k ≡ Record.Compound (CompoundTerm.Dual p) → p ≡ p_at table k
  unfolding record_of kind_number
  dual-part p e = cc (fields-of (Record.Compound (CompoundTerm.Dual p)) e refl)

-- ---- 32 bits

-- Every byte is below 256, so that every word is below 2 ^ 32.
abbrev pub Bytes : List ℕ → Type 0
Bytes table = (i : ℕ) → byte_at table i < 256

-- Four bytes are 32 bits.
pub word_small : (table : List ℕ) → ((i : ℕ) → byte_at table i < 256) → (at : ℕ) → word_at table at < 4294967296
unfolding word_at
word_small table f at = omega (arith, f at, f (at + 1), f (at + 2), f (at + 3))

-- u of every record is a signed 32-bit number.
pub u-small : (table : List ℕ) → ((i : ℕ) → byte_at table i < 256) → (k : ℕ) → Value32 (u_at table k)
unfolding u_at
u-small table f k = signed-small (word_at table (12 * k + 4)) (word_small table f (12 * k + 4))

-- So is v.
pub v-small : (table : List ℕ) → ((i : ℕ) → byte_at table i < 256) → (k : ℕ) → Value32 (v_at table k)
unfolding v_at
v-small table f k = signed-small (word_at table (12 * k + 8)) (word_small table f (12 * k + 8))
