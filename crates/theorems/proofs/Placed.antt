-- The two parts of a record and its placings (SPECIFICATION, "The third promise, word by word": "Two parts"): Check
-- accepts all three tables, and what one placed before the other keeps. Assumes nothing.
use Rattle.std.specs.Prelude.{◌≡◌, Bool, true, ◌&&◌, List, ℕ, ◌<◌, ℤ}
use Rattle.std.proofs.Common.{◌∙◌, ap, arith}
use Rattle.std.specs.Int.Bits.{bit_or}
use Rattle.model.specs.Record.{record_count, record_at, p_at, q_at, is_term}
use Rattle.model.specs.Term.{term_at, columns_of}
use Rattle.model.specs.Check.{check_reply}
use Rattle.model.specs.Query.{row_count}
use Rattle.model.specs.Demand.{accepted, left_first, right_first, equally, keeps}
use Rattle.laws.specs.Accepted.{Accepted, accepted-true}
use Rattle.laws.specs.AcceptedKinds.{AcceptedJoined}
use Rattle.laws.proofs.AcceptedTerms.{accepted-term}
use Rattle.laws.specs.Placings.{two-parts}
use Rattle.laws.proofs.Placings.{two-inside, left-first, right-first, ranked-equally}
use Rattle.laws.proofs.TwoParts.{placed-before-keeps}
use Rattle.theorems.specs.Asked.{Asked, AskedTwo, TwoParts, Long}
use Rattle.theorems.proofs.Dropped.{query-passes}
use Rattle.theorems.proofs.Among.{second-by-group}

-- Check accepts each of the three, with the reply that the table itself gets.
pub placings-accepted : (table : List ℕ) (columns : ℕ) → accepted table columns ≡ true → (k : ℕ) → TwoParts table k
    → ((accepted (left_first table k) columns ≡ true) × (check_reply (left_first table k) columns ≡ check_reply table columns))
    × ((accepted (right_first table k) columns ≡ true) × (check_reply (right_first table k) columns ≡ check_reply table columns))
    × ((accepted (equally table k) columns ≡ true) × (check_reply (equally table k) columns ≡ check_reply table columns))
placings-accepted table columns e k two =
    let ok = (accepted-true table columns).0 e in
    let l = left-first table columns ok k two in
    let r = right-first table columns ok k two in
    let q = ranked-equally table columns ok k two in (
      ((accepted-true (left_first table k) columns).1 l.is_accepted, l.reply),
      ((accepted-true (right_first table k) columns).1 r.is_accepted, r.reply),
      ((accepted-true (equally table k) columns).1 q.is_accepted, q.reply),
    )

module _ (table : List ℕ) (columns : ℕ) (rows : List ℤ) (k group : ℕ) (asked : AskedTwo table columns rows k group) where
  pub ok : Accepted table columns
  ok = (accepted-true table columns).0 asked.is_accepted

  inside : k < record_count table
  inside = two-inside table columns ok k asked.two_parts

  compound : is_term (record_at table k) ≡ true
  compound = ap is_term (two-parts table k asked.two_parts).1

  -- Its parts are term records below it.
  pub parts : AcceptedJoined table k (two-parts table k asked.two_parts).0 (p_at table k) (q_at table k)
  parts =
      (accepted-term table columns ok k inside compound).of_joined (two-parts table k asked.two_parts).0
      (p_at table k) (q_at table k) (two-parts table k asked.two_parts).1

  -- A term record of an accepted table can be asked for with the same rows and group byte.
  pub of-record : (other : List ℕ) → accepted other columns ≡ true → (term : ℕ) → term < record_count other
      → is_term (record_at other term) ≡ true → Asked other columns rows term group
  of-record other e term h r =
      record {
        of_term = record { is_accepted = e; below = h; is_record = r };
        rows_fit = asked.rows_fit;
        group_fits = asked.group_fits;
      }

  -- So can the record itself,
  pub whole : Asked table columns rows k group
  whole = of-record table asked.is_accepted k inside compound

  -- the parts' own records,
  pub left-part : Asked table columns rows (p_at table k) group
  left-part = of-record table asked.is_accepted (p_at table k) (omega (arith, parts.left, inside)) parts.left_term

  pub right-part : Asked table columns rows (q_at table k) group
  right-part = of-record table asked.is_accepted (q_at table k) (omega (arith, parts.right, inside)) parts.right_term

  -- and the record in the two placings and ranking equally.
  pub left-placed : Asked (left_first table k) columns rows k group
  left-placed =
      let w = left-first table columns ok k asked.two_parts in
      of-record (left_first table k) ((accepted-true (left_first table k) columns).1 w.is_accepted) k
      (rw w.count inside) w.is_placed

  pub right-placed : Asked (right_first table k) columns rows k group
  right-placed =
      let w = right-first table columns ok k asked.two_parts in
      of-record (right_first table k) ((accepted-true (right_first table k) columns).1 w.is_accepted) k
      (rw w.count inside) w.is_placed

  pub even-placed : Asked (equally table k) columns rows k group
  even-placed =
      let w = ranked-equally table columns ok k asked.two_parts in
      of-record (equally table k) ((accepted-true (equally table k) columns).1 w.is_accepted) k
      (rw w.count inside) w.is_placed

  -- One placed before the other keeps a row exactly when the first keeps it and the second keeps it with the bits of the
  -- first's columns set in the group byte too: the left first, and the right first.
  pub prior-keeps : (i : ℕ) → i < row_count columns rows → (a b c : List ℕ)
      → Long columns rows a → Long columns rows b → Long columns rows c
      → (keeps (left_first table k) columns rows k group a i
      ≡ (keeps table columns rows (p_at table k) group b i
      && keeps table columns rows (q_at table k) (bit_or group (columns_of (term_at table (p_at table k)))) c i))
      × (keeps (right_first table k) columns rows k group a i
      ≡ (keeps table columns rows (q_at table k) group b i
      && keeps table columns rows (p_at table k) (bit_or group (columns_of (term_at table (q_at table k)))) c i))
  prior-keeps i row a b c la lb lc =
      let p = p_at table k in
      let q = q_at table k in
      let w = placed-before-keeps table columns rows k group a (query-passes table columns rows k group whole a la)
      asked.two_parts i row a b la lb in (
        w.0 ∙ ap (λ (e : Bool). keeps table columns rows p group b i && e)
            (second-by-group table columns rows p q group left-part.of_term right-part i row c lc).0,
        w.1 ∙ ap (λ (e : Bool). keeps table columns rows q group b i && e)
            (second-by-group table columns rows q p group right-part.of_term left-part i row c lc).0,
      )
