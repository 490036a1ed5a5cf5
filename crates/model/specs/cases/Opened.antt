-- Opens the definitions, file by file: a proof with `unfolding opened` computes with all of them.
use Rattle.std.specs.Prelude.{ℕ}
use Rattle.model.specs.Search.{any_below, find_below, count_below, list_below, any_in, fill}
use Rattle.model.specs.Bytes.{byte_at, word_at, signed, numbers, bit, eq_z}
use Rattle.model.specs.Record.{record_count, kind_at, p_at, q_at, s_at, u_at, v_at, record_of, record_at, nearest_term}
use Rattle.model.specs.Record.{values_of}
use Rattle.model.specs.Term.{terms_below, term_among, term_at, columns_of}
use Rattle.model.specs.Better.{distance, distance_between, in_role, favourite, disliked, second_choice, other_than}
use Rattle.model.specs.Better.{in_order, reaches, in_edge, better_value, cell, equal_in, equal, better}
use Rattle.model.specs.Replies.{refusals, numbered, refusal}
use Rattle.model.specs.Check.{fails_width, fails_length, fails_filler, fails_part, is_part, twice, fails_reused}
use Rattle.model.specs.Check.{owner_at, earlier_values, fails_stray, fails_crowd, clash, fails_clash, closes_cycle}
use Rattle.model.specs.Check.{fails_loop, fails_bounds, columns_before, fails_apart, top_of, fails_loose, each_below}
use Rattle.model.specs.Check.{judge, verdict_by, table_verdict, summary, check_reply}
use Rattle.model.specs.Compare.{fails_row, fails_term, term_verdict, outcome, compare_reply}
use Rattle.model.specs.Query.{kept, answer, kept_count, row_count, row_at, beats_in, fails_rows, fails_group}
use Rattle.model.specs.Query.{fails_short, query_verdict, query_reply, query_buffer}
use Rattle.model.specs.Perfect.{perfect_reply}
use Rattle.model.specs.Demand.{is_chain, accepted, rewritten, left_first, right_first, equally, keeps, keeps_among}
use Rattle.model.specs.Leaving.{left_below, left_rows, old_number, kept_rows, by_catalogue}
use Rattle.model.specs.Pick.{text, digits, decimal, line, refused_text, ok_text, row_text, rows_text, fails_file}
use Rattle.model.specs.Pick.{pick_verdict, pick_beats, answer_text, pick_text}

unfoldable opened_search : ℕ
unfolding any_below find_below count_below list_below any_in fill
opened_search = 0

unfoldable opened_bytes : ℕ
unfolding byte_at word_at signed numbers bit eq_z
opened_bytes = 0

unfoldable opened_record : ℕ
unfolding record_count kind_at p_at q_at s_at u_at v_at record_of record_at nearest_term values_of
opened_record = 0

unfoldable opened_term : ℕ
unfolding terms_below term_among term_at columns_of
opened_term = 0

unfoldable opened_better_1 : ℕ
unfolding distance distance_between in_role favourite disliked second_choice other_than in_order reaches in_edge
opened_better_1 = 0

unfoldable opened_better_2 : ℕ
unfolding better_value cell equal_in equal better
opened_better_2 = 0

unfoldable opened_replies : ℕ
unfolding refusals numbered refusal
opened_replies = 0

unfoldable opened_check_1 : ℕ
unfolding fails_width fails_length fails_filler fails_part is_part twice fails_reused owner_at earlier_values fails_stray
opened_check_1 = 0

unfoldable opened_check_2 : ℕ
unfolding fails_crowd clash fails_clash closes_cycle fails_loop fails_bounds columns_before fails_apart top_of fails_loose
opened_check_2 = 0

unfoldable opened_check_3 : ℕ
unfolding each_below judge verdict_by table_verdict summary check_reply
opened_check_3 = 0

unfoldable opened_compare : ℕ
unfolding fails_row fails_term term_verdict outcome compare_reply
opened_compare = 0

unfoldable opened_query : ℕ
unfolding kept answer kept_count row_count row_at beats_in fails_rows fails_group fails_short query_verdict query_reply query_buffer
opened_query = 0

unfoldable opened_perfect : ℕ
unfolding perfect_reply
opened_perfect = 0

unfoldable opened_demand : ℕ
unfolding is_chain accepted rewritten left_first right_first equally keeps keeps_among
opened_demand = 0

unfoldable opened_leaving : ℕ
unfolding left_below left_rows old_number kept_rows by_catalogue
opened_leaving = 0

unfoldable opened_pick : ℕ
unfolding text digits decimal line refused_text ok_text row_text rows_text fails_file pick_verdict pick_beats answer_text pick_text
opened_pick = 0

unfoldable opened_tables : ℕ
unfolding opened_search opened_bytes opened_record opened_term opened_better_1 opened_better_2 opened_replies
opened_tables = 0

unfoldable opened_check : ℕ
unfolding opened_check_1 opened_check_2 opened_check_3
opened_check = 0

unfoldable pub opened : ℕ
unfolding opened_tables opened_check opened_compare opened_query opened_perfect opened_demand opened_leaving opened_pick
opened = 0
