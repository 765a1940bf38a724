-- The cells of a record and its row, in both directions.
use Rattle.std.proofs.Common.{◌≡◌, ℕ, zero, suc, ◌+◌, ◌<◌, ◌≤◌, ◌^◌, Bool, true, false, ◌&&◌, if◌then◌else◌, List, [], ◌∷◌, length, All, Option, Some, None, option_and_then, unwrap_or, Result, Ok, Err, refl, sym, ap, subst, ◌∙◌, arith}
use Rattle.std.specs.Str.{bytes_eq}
use Rattle.std.specs.List.{list_all}
use Rattle.std.specs.Result.{result_ok}
use Rattle.std.proofs.lemmas.Bool.{and_parts}
use Rattle.std.proofs.lemmas.List.Elements.{All-cons, All-head, All-tail}
use Rattle.std.proofs.lemmas.Slice.Eq.{bytes_eq-Decides}
use Rattle.hudi_base.specs.InstantTime.{time_text}
use Rattle.hudi_base.proofs.Times.{length-time_text}
use Rattle.hudi_base.specs.declared.value.Value.{Value, Text}
use Rattle.hudi_base.specs.declared.value.Value.TheVariants as variant
use Rattle.payload_merge.specs.declared.row.Row.{Row}
use Rattle.payload_merge.specs.Contents.{DataPlace}
use Rattle.row_values.specs.declared.row_layout.RowLayout.{RowLayout}
use Rattle.row_values.specs.Cells.{AreCells, IsShortCell}
use Rattle.row_values.specs.RowCells.{body_of, rank_in, seqno_text, text_at, text_in}
use Rattle.row_records.specs.Records.{IsRecordOf, is_short_cell, one_text, only_text, record_fields, row_at, row_in, row_of_cells, seq_in, with_agreed}
use Rattle.row_records.proofs.HeadLemmas.{agreed, agreed_is, one_told, one_again, only_told, only_again, seq_told, seq_again, seqno_short, short_told, short_again, texts_of}

-- what the texts before own cells, and these, tell of a row
pub record TellRow (layout : RowLayout) (instant : ℕ) (partition seqno key path : List ℕ) (own : List Value) (row : Row) : Type 0 where
  pub seqno_is : seqno ≡ seqno_text row.commit row.seq
  pub key_is : key ≡ row.key
  pub path_is : path ≡ row.partition
  pub commit : row.commit ≡ instant
  pub partition_is : row.partition ≡ partition
  pub seq : row.seq < 2 ^ 32
  pub body : row.body ≡ body_of layout own
  pub own_key : text_at layout.key own ≡ Some row.key
  pub own_partition : text_at layout.partition own ≡ Some row.partition
  pub rank : rank_in layout.ordering own ≡ Some row.rank

module _ (layout : RowLayout) (instant : ℕ) (partition commit seqno key path file : List ℕ) (own : List Value) where
  abbrev rank_step : ℕ → List ℕ → Result Row ℕ
  rank_step seq k = with_agreed (5 + unwrap_or layout.ordering 0) (rank_in layout.ordering own) (λ rank. Ok (row_of_cells layout instant partition own seq k rank))

  abbrev path_step : ℕ → List ℕ → Result Row ℕ
  path_step seq k = with_agreed 3 (option_and_then (only_text partition) (one_text (Some path) (text_at layout.partition own))) (λ p. rank_step seq k)

  abbrev key_step : ℕ → Result Row ℕ
  key_step seq = with_agreed 2 (one_text (Some key) (text_at layout.key own)) (λ k. path_step seq k)

  pub row_told : (row : Row) → row_in layout instant partition (Text commit ∷ Text seqno ∷ Text key ∷ Text path ∷ Text file ∷ own) ≡ Ok row → TellRow layout instant partition seqno key path own row
  unfolding row_in
  row_told row e =
      let s = agreed 1 (seq_in instant seqno) key_step row e in
      let k = agreed 2 (one_text (Some key) (text_at layout.key own)) (λ x. path_step s.0 x) row s.2 in
      let p = agreed 3 (option_and_then (only_text partition) (one_text (Some path) (text_at layout.partition own))) (λ x. rank_step s.0 k.0) row k.2 in
      let r = agreed (5 + unwrap_or layout.ordering 0) (rank_in layout.ordering own) (λ rank. Ok (row_of_cells layout instant partition own s.0 k.0 rank)) row p.2 in
      let seq-told = seq_told instant seqno s.0 s.1 in
      let key-told = one_told key (text_at layout.key own) k.0 k.1 in
      let path-told = only_told partition (one_text (Some path) (text_at layout.partition own)) p.0 p.1 in
      let both = one_told path (text_at layout.partition own) partition path-told.0 in
      let same : row_of_cells layout instant partition own s.0 k.0 r.0 ≡ row = cc r.2 in
      subst (TellRow layout instant partition seqno key path own) same (record {
        seqno_is = seq-told.0;
        key_is = key-told.0;
        path_is = both.0;
        commit = refl;
        partition_is = refl;
        seq = seq-told.1;
        body = refl;
        own_key = key-told.1;
        own_partition = both.1;
        rank = r.1;
      })

  pub row_again : (row : Row) → TellRow layout instant partition seqno key path own row → row_in layout instant partition (Text commit ∷ Text seqno ∷ Text key ∷ Text path ∷ Text file ∷ own) ≡ Ok row
  unfolding row_in
  row_again row t =
      let s : seq_in instant seqno ≡ Some row.seq = ap (seq_in instant) (t.seqno_is ∙ ap (λ (i : ℕ). seqno_text i row.seq) t.commit) ∙ seq_again instant row.seq t.seq in
      let k : one_text (Some key) (text_at layout.key own) ≡ Some row.key = ap (λ (x : List ℕ). one_text (Some x) (text_at layout.key own)) t.key_is ∙ one_again row.key (text_at layout.key own) t.own_key in
      let both : one_text (Some path) (text_at layout.partition own) ≡ Some partition =
      ap (λ (x : List ℕ). one_text (Some x) (text_at layout.partition own)) (t.path_is ∙ t.partition_is) ∙ one_again partition (text_at layout.partition own) (t.own_partition ∙ ap Some t.partition_is) in
      let p = only_again partition (one_text (Some path) (text_at layout.partition own)) both in
      let same : row_of_cells layout instant partition own row.seq row.key row.rank ≡ row =
      ap (λ (i : ℕ). row_of_cells layout i partition own row.seq row.key row.rank) (sym t.commit)
      ∙ ap (λ (x : List ℕ). row_of_cells layout row.commit x own row.seq row.key row.rank) (sym t.partition_is)
      ∙ ap (λ (b : List ℕ). record row { body = b }) (sym t.body) in
      agreed_is 1 (seq_in instant seqno) key_step row.seq s
      ∙ agreed_is 2 (one_text (Some key) (text_at layout.key own)) (λ x. path_step row.seq x) row.key k
      ∙ agreed_is 3 (option_and_then (only_text partition) (one_text (Some path) (text_at layout.partition own))) (λ x. rank_step row.seq row.key) partition p
      ∙ agreed_is (5 + unwrap_or layout.ordering 0) (rank_in layout.ordering own) (λ rank. Ok (row_of_cells layout instant partition own row.seq row.key rank)) row.rank t.rank
      ∙ ap (λ (r : Row). let x : Result Row ℕ = Ok r in x) same

-- ---- in a block

ok_of : (r : Result Row ℕ) (row : Row) → result_ok r ≡ Some row → r ≡ Ok row
ok_of (Ok x) row e = ap (λ (y : Row). let r : Result Row ℕ = Ok y in r) cc
ok_of (Err place) row e = absurd cc

chosen : (b : Bool) (o : Option Row) (row : Row) → (if b then o else None) ≡ Some row → (b ≡ true) × (o ≡ Some row)
chosen true o row e = (refl, e)
chosen false o row e = absurd cc

own_short : (a b c d e : Value) (own : List Value) → All IsShortCell (a ∷ b ∷ c ∷ d ∷ e ∷ own) → All IsShortCell own
own_short a b c d e own each =
    All-tail IsShortCell e own (All-tail IsShortCell d (e ∷ own) (All-tail IsShortCell c (d ∷ e ∷ own) (All-tail IsShortCell b (c ∷ d ∷ e ∷ own) (All-tail IsShortCell a (b ∷ c ∷ d ∷ e ∷ own) each))))

module _ (layout : RowLayout) (place : DataPlace) (row : Row) where
  explicit : (commit seqno key path file : List ℕ) (own : List Value) → AreCells layout.fields own → row_at layout place (Text commit ∷ Text seqno ∷ Text key ∷ Text path ∷ Text file ∷ own) ≡ Some row
      → IsRecordOf layout place row (Text commit ∷ Text seqno ∷ Text key ∷ Text path ∷ Text file ∷ own)
  unfolding row_at
  explicit commit seqno key path file own fit e =
      let cells : List Value = Text commit ∷ Text seqno ∷ Text key ∷ Text path ∷ Text file ∷ own in
      let c = chosen (list_all is_short_cell cells && bytes_eq commit (time_text place.instant) && bytes_eq file place.file_id) (result_ok (row_in layout place.instant place.partition cells)) row e in
      let two = and_parts (list_all is_short_cell cells && bytes_eq commit (time_text place.instant)) (bytes_eq file place.file_id) c.0 in
      let one = and_parts (list_all is_short_cell cells) (bytes_eq commit (time_text place.instant)) two.0 in
      let t = row_told layout place.instant place.partition commit seqno key path file own row (ok_of (row_in layout place.instant place.partition cells) row c.1) in
      let short = short_told cells one.0 in
      let commit-is : commit ≡ time_text row.commit = (bytes_eq-Decides commit (time_text place.instant)).0 one.1 ∙ ap time_text (sym t.commit) in
      let file-is : file ≡ place.file_id = (bytes_eq-Decides file place.file_id).0 two.1 in
      let file-short : length file ≤ 65536 =
      All-head IsShortCell (Text file) own (All-tail IsShortCell (Text path) (Text file ∷ own) (All-tail IsShortCell (Text key) (Text path ∷ Text file ∷ own) (All-tail IsShortCell (Text seqno) (Text key ∷ Text path ∷ Text file ∷ own) (All-tail IsShortCell (Text commit) (Text seqno ∷ Text key ∷ Text path ∷ Text file ∷ own) short)))) in
      record {
        own = own;
        own_are = record {
          fit = fit;
          short = own_short (Text commit) (Text seqno) (Text key) (Text path) (Text file) own short;
          body = t.body;
          key = t.own_key;
          partition = t.own_partition;
          rank = t.rank;
        };
        cells_are =
            ap (λ (x : List ℕ). Text x ∷ Text seqno ∷ Text key ∷ Text path ∷ Text file ∷ own) commit-is
            ∙ ap (λ (x : List ℕ). Text (time_text row.commit) ∷ Text x ∷ Text key ∷ Text path ∷ Text file ∷ own) t.seqno_is
            ∙ ap (λ (x : List ℕ). Text (time_text row.commit) ∷ Text (seqno_text row.commit row.seq) ∷ Text x ∷ Text path ∷ Text file ∷ own) t.key_is
            ∙ ap (λ (x : List ℕ). Text (time_text row.commit) ∷ Text (seqno_text row.commit row.seq) ∷ Text row.key ∷ Text x ∷ Text file ∷ own) t.path_is
            ∙ ap (λ (x : List ℕ). Text (time_text row.commit) ∷ Text (seqno_text row.commit row.seq) ∷ Text row.key ∷ Text row.partition ∷ Text x ∷ own) file-is;
        commit = t.commit;
        partition = t.partition_is;
        seq = t.seq;
        short_id = subst (λ (x : List ℕ). length x ≤ 65536) file-is file-short;
      }

  pub record_told : (cells : List Value) → AreCells (record_fields layout.fields) cells → row_at layout place cells ≡ Some row → IsRecordOf layout place row cells
  record_told cells fit e =
      let t = texts_of layout.fields cells fit in
      subst (IsRecordOf layout place row) (sym t.whole)
      (explicit t.commit t.seqno t.key t.path t.file t.own t.fit (subst (λ (cs : List Value). row_at layout place cs ≡ Some row) t.whole e))

-- ---- the other way

text_is : (c : Value) (text : List ℕ) → text_in c ≡ Some text → c ≡ Text text
text_is (variant.Text content) text e = ap Text cc
text_is _ text e = absurd cc

pub short_text : (place : ℕ) (cells : List Value) (text : List ℕ) → All IsShortCell cells → text_at place cells ≡ Some text → length text ≤ 65536
short_text place [] text each e = absurd cc
short_text zero (c ∷ cells) text each e = subst IsShortCell (text_is c text e) (All-head IsShortCell c cells each)
short_text (suc place) (c ∷ cells) text each e = short_text place cells text (All-tail IsShortCell c cells each) e

both : (a b : Bool) → a ≡ true → b ≡ true → (a && b) ≡ true
both a b p q = rw (p, q) refl

chosen_is : (b : Bool) (o : Option Row) → b ≡ true → (if b then o else None) ≡ o
chosen_is b o e = ap (λ (c : Bool). if c then o else None) e

pub record_again : (layout : RowLayout) (place : DataPlace) (row : Row) (cells : List Value) → IsRecordOf layout place row cells → row_at layout place cells ≡ Some row
unfolding row_at
record_again layout place row cells is =
    let time = time_text row.commit in
    let seqno = seqno_text row.commit row.seq in
    let file = place.file_id in
    let own = is.own in
    let whole : List Value = Text time ∷ Text seqno ∷ Text row.key ∷ Text row.partition ∷ Text file ∷ own in
    let key-short = short_text layout.key own row.key is.own_are.short is.own_are.key in
    let path-short = short_text layout.partition own row.partition is.own_are.short is.own_are.partition in
    let time-short : length time ≤ 65536 = omega (arith, length-time_text row.commit) in
    let each : All IsShortCell whole =
    All-cons IsShortCell (Text time) (Text seqno ∷ Text row.key ∷ Text row.partition ∷ Text file ∷ own) time-short
    (All-cons IsShortCell (Text seqno) (Text row.key ∷ Text row.partition ∷ Text file ∷ own) (seqno_short row.commit row.seq is.seq)
    (All-cons IsShortCell (Text row.key) (Text row.partition ∷ Text file ∷ own) key-short
    (All-cons IsShortCell (Text row.partition) (Text file ∷ own) path-short (All-cons IsShortCell (Text file) own is.short_id is.own_are.short)))) in
    let told : TellRow layout place.instant place.partition seqno row.key row.partition own row = record {
      seqno_is = refl;
      key_is = refl;
      path_is = refl;
      commit = is.commit;
      partition_is = is.partition;
      seq = is.seq;
      body = is.own_are.body;
      own_key = is.own_are.key;
      own_partition = is.own_are.partition;
      rank = is.own_are.rank;
    } in
    let short : list_all is_short_cell whole ≡ true = short_again whole each in
    let timed : bytes_eq time (time_text place.instant) ≡ true = (bytes_eq-Decides time (time_text place.instant)).1 (ap time_text is.commit) in
    let filed : bytes_eq file file ≡ true = (bytes_eq-Decides file file).1 refl in
    let agree = both (list_all is_short_cell whole && bytes_eq time (time_text place.instant)) (bytes_eq file file) (both (list_all is_short_cell whole) (bytes_eq time (time_text place.instant)) short timed) filed in
    ap (row_at layout place) is.cells_are
    ∙ chosen_is (list_all is_short_cell whole && bytes_eq time (time_text place.instant) && bytes_eq file file) (result_ok (row_in layout place.instant place.partition whole)) agree
    ∙ ap result_ok (row_again layout place.instant place.partition time seqno row.key row.partition file own row told)
