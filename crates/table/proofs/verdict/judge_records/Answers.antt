use mathlib.Core.Path.{◌≡◌, refl, sym, ◌∙◌}
use Prim.Native.Nat.{◌+◌, ◌<◌}
use native.Mathlib.Omega.{arith}
use native.Mathlib.Numerals.{add-one}
use lib.ListN.{length, length-set}
use borrow.Author.Rules.{rules}
use Rattle.model.specs.Record.{nearest_term}
use Rattle.model.specs.Check.{each_below}
use Rattle.table.specs.Carried.{TermsBelow, UsedBelow}
use Rattle.table.proofs.Carried.{carried_none, term-more, term-same, used-two, used-one, used-none}
use Rattle.table.proofs.VerdictLaws.{records-loose, records-refused}
use Rattle.table.proofs.verdict.judge_records.Goals as goal
use Rattle.table.proofs.verdict.judge_records.Goals.{in-Some-Joined, in-Some-Dual, in-None, then-is_term_at, else-is_term_at}

pub loop-k-init : goal.loop-k-init
unfolding each_below
loop-k-init c = (refl, refl, refl, carried_none _)

pub returns-in_err-judge_record : goal.returns-in_err-judge_record
returns-in_err-judge_record c =
    let a = c.args in
    rw (records-refused a.table.now a.columns a.n c.loop-k.k _ (omega arith) c.loop-k.invariant.2 (sym c.in_err-judge_record.ensures))
    (search rules)

pub loop-k-preserved : goal.loop-k-preserved
unfolding each_below
loop-k-preserved c =
    let t = c.args.table.now in
    let k = c.loop-k.k in
    let v = c.loop-k.invariant in
    let few : k < 128 = omega (arith, c.requires.few) in
    let used : (length c.match-compound_at.used ≡ 256) × UsedBelow t (k + 1) c.match-compound_at.used
    = elim c.match-compound_at.branch [
      | in-Some-Joined w ↦
          let i = w.in-Some-Joined in (
            rw w.used-is (length-set _ _ _ ∙ length-set _ _ _ ∙ v.1),
            rw w.used-is (used-two t k c.loop-k.near c.loop-k.terms c.loop-k.used v.3 few v.0 v.1 i.p i.q (search rules) (search rules)
                (rw (i.is, i.field-0-is) at c.compound_at.ensures)),
          )
      | in-Some-Dual w ↦
          let i = w.in-Some-Dual in (
            rw w.used-is (length-set _ _ _ ∙ v.1),
            rw w.used-is (used-one t k c.loop-k.near c.loop-k.terms c.loop-k.used v.3 few v.0 v.1 i.p (search rules)
                (rw (i.is, i.field-0-is) at c.compound_at.ensures)),
          )
      | in-None w ↦ (
        rw w.used-is v.1,
        rw w.used-is (used-none t k c.loop-k.near c.loop-k.terms c.loop-k.used v.3 few v.0 v.1 (rw w.in-None.is at c.compound_at.ensures)),
      )
    ] in
    let terms : (length c.if-is_term_at.terms ≡ 256) × TermsBelow t (k + 1) c.if-is_term_at.terms × (c.if-is_term_at.near ≡ nearest_term t (k + 1))
    = elim c.if-is_term_at.branch [
      | then-is_term_at w ↦
          let more = term-more t k c.loop-k.near c.loop-k.terms c.loop-k.used v.3 few v.0 v.1 (sym c.is_term_at.ensures ∙ w.if-is_term_at.true) in
          (rw w.terms-is (length-set _ _ _ ∙ v.0), rw w.terms-is more.0, rw w.near-is more.1)
      | else-is_term_at w ↦
          let same = term-same t k c.loop-k.near c.loop-k.terms c.loop-k.used v.3 few v.0 v.1 (sym c.is_term_at.ensures ∙ w.if-is_term_at.false) in
          (rw w.terms-is v.0, rw w.terms-is same.0, rw w.near-is same.1)
    ] in (
      terms.0,
      used.0,
      rw (add-one, v.2) (sym c.in_ok-judge_record.ensures),
      record { nearest = terms.2; terms_below = terms.1; used_below = used.1 },
    )

pub returns : goal.returns
returns c =
    let a = c.args in
    let e : c.loop-k.k ≡ a.n = omega arith in
    c.judge_loose.ensures
    ∙ records-loose a.table.now a.columns a.n c.loop-k.near c.loop-k.terms c.loop-k.used c.requires.few (rw e at c.loop-k.invariant.3) (rw e at c.loop-k.invariant.2)
