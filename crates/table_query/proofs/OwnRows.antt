-- What a query answers was read from contents of blocks, so its rows have whatever all rows have that are read.
use Rattle.std.proofs.Common.{◌≡◌, ◌+◌, ◌==◌, ◌&&◌, T, cond, ℕ, ℤ, zero, suc, Bool, true, false, List, [], ◌∷◌, length, map, Option, Some, None, Result, Ok, Err, refl, sym, ap, ◌∙◌, subst}
use Rattle.std.specs.Prelude.{All, IfOk, IfSome, int_lt}
use Rattle.std.specs.FinMap.{empty, entries, entries_sorted, find, get, get-entries, is_sorted}
use Rattle.std.specs.FinMap.Entries.{below_all}
use Rattle.std.specs.Int.{w64}
use Rattle.std.specs.Ordering.{eq_by_cmp, is_eq, is_lt}
use Rattle.std.specs.declared.cmp.Ordering.{Ordering}
use Rattle.std.specs.declared.cmp.Ordering.TheVariants.{Less, Equal, Greater}
use Rattle.std.proofs.lemmas.Cmp.{tied_itself}
use Rattle.std.proofs.lemmas.List.Elements.{All-append, All-cons, All-head, All-map, All-nil, All-tail}
use Rattle.byteorder.specs.Endian.{big_number}
use Rattle.block_contents.specs.Contents.{content_at, count_at, items_at, with_offset}
use Rattle.block_contents.specs.Deletes.{delete_at, deletes_in, key_and_rank_at}
use Rattle.byte_fields.specs.Numbers.{number_at, signed_at}
use Rattle.byte_fields.specs.Prefixed.{prefixed_at}
use Rattle.byte_fields.specs.Reading.{Reading, ◌>>=◌, as_item, only_if}
use Rattle.byte_fields.specs.declared.field_error.FieldError.{FieldError}
use Rattle.hudi_base.specs.declared.file_group.GroupRef.{GroupRef}
use Rattle.log_block.specs.declared.block.Block.{Block}
use Rattle.log_block.specs.declared.block.Block.TheVariants.{Data, Delete, Rollback}
use Rattle.payload_merge.specs.Contents.{DataPlace, puts_of}
use Rattle.payload_merge.specs.Fold.{RowTable, rows_of, table_after, table_after_all}
use Rattle.payload_merge.specs.Payload.{Key, key_cmp, key_of, rank_of, row_after, winner}
use Rattle.payload_merge.specs.declared.row.Row.{Row}
use Rattle.payload_merge.specs.declared.row.Write.{Write}
use Rattle.payload_merge.specs.declared.row.Write.TheVariants.{Put, Del}
use Rattle.payload_merge.proofs.Keys.{keys_total, same_key}
use Rattle.payload_merge.proofs.Tables.{get-nothing, get-table_after}
use Rattle.table_core.specs.declared.job_reply.JobReply.{JobReply}
use Rattle.table_core.specs.declared.job_reply.JobReply.TheVariants as job
use Rattle.table_history.specs.declared.entry.Entry.{Entry}
use Rattle.table_history.specs.declared.reply.Reply.{Reply}
use Rattle.table_history.specs.declared.reply.Reply.TheVariants as reply
use Rattle.table_history.specs.declared.view.GroupParts.{GroupParts}
use Rattle.table_history.specs.declared.view.View.{View}
use Rattle.table_jobs.specs.Places.{place_in}
use Rattle.table_jobs.specs.Replies.{ending, first_of_two, told}
use Rattle.table_query.specs.Answers.{IsAnswer, IsMadeOf, IsQueryReply, RowsHave, reply_with}
use Rattle.table_query.specs.GroupReading.{Damage, TableReading, all_from, block_gives, block_writes, files_in, followed_by, group_writes, in_part, log_gives, log_writes, logs_of, numbered, one_each, view_writes, counts, voided, writes_in}
use Rattle.table_query.specs.ReadBytes.{bytes_read, pinned}
use Rattle.table_query.specs.declared.logs.PartLog.{PartLog}

no_some : {A : Type 0} {x : A} → None ≡ Some x → ⊥
no_some h = cc

and_first : (a b : Bool) → T (a && b) → T a
and_first true b h = tt
and_first false b h = absurd h

and_second : (a b : Bool) → T (a && b) → T b
and_second true b h = h
and_second false b h = absurd h

not_tied : (o : Ordering) → T (is_lt o) → is_eq o ≡ false
not_tied Less h = refl
not_tied Equal h = absurd h
not_tied Greater h = absurd h

-- no entry is at a key below all
not_below : (key : Key) (es : List (Key × Row)) → T (below_all key_cmp key es) → find key_cmp key es ≡ None
not_below key [] h = refl
not_below key (e ∷ es) h = ap (λ b. cond b (Some e.1) (find key_cmp key es)) (not_tied (key_cmp key e.0) (and_first _ _ h)) ∙ not_below key es (and_second _ _ h)

module _ (P : Row → Type 0) where
  -- the row of a put has it; a delete has no row
  abbrev pub PutHas : Write → Type 0
  PutHas (Put row) = P row
  PutHas (Del partition key rank) = Unit {0}

  abbrev AllHave : {E : Type 0} → Result (List Write) E → Type 0
  AllHave r = IfOk r (All PutHas)

  -- ---- contents

  puts_have : (r : Result (List Row) ℕ) → IfOk r (All P) → AllHave (puts_of r)
  puts_have (Ok rows) all = All-map PutHas Put rows all
  puts_have (Err at) all = tt

  abbrev HasFirst : {A : Type 0} → (A → Type 0) → Result (A × List ℕ) FieldError → Type 0
  HasFirst Q (Ok x) = Q x.0
  HasFirst Q (Err e) = Unit {0}

  item_has : (bytes : List ℕ) (r : Reading Write) → HasFirst PutHas r → HasFirst PutHas (as_item bytes r)
  item_has bytes (Ok x) has = has
  item_has bytes (Err e) has = tt

  deleted : (partition : List ℕ) (key : Reading (List ℕ)) (rank : List ℕ → Reading ℤ) → HasFirst PutHas (key >>= λ k. rank k.1 >>= λ r. Ok (Del partition k.0 r.0, r.1))
  deleted partition (Err e) rank = tt
  deleted partition (Ok k) rank = ranked (rank k.1)
    where
      ranked : (r : Reading ℤ) → HasFirst PutHas (r >>= λ r. Ok (Del partition k.0 r.0, r.1))
      ranked (Err e) = tt
      ranked (Ok r) = tt

  delete_has : (partition bytes : List ℕ) → HasFirst PutHas (delete_at partition bytes)
  unfolding delete_at key_and_rank_at
  delete_has partition bytes = item_has bytes (key_and_rank_at partition bytes) (deleted partition (prefixed_at (number_at big_number 4) bytes) (signed_at big_number w64 8))

  items_behind : (item : Write) → PutHas item → (r : Reading (List Write)) → HasFirst (All PutHas) r → HasFirst (All PutHas) (r >>= λ items. Ok (item ∷ items.0, items.1))
  items_behind item here (Err e) all = tt
  items_behind item here (Ok items) all = All-cons PutHas item items.0 here all

  item_first : (later : List ℕ → Reading (List Write)) → ((bytes : List ℕ) → HasFirst (All PutHas) (later bytes)) → (r : Reading Write) → HasFirst PutHas r
      → HasFirst (All PutHas) (r >>= λ item. later item.1 >>= λ items. Ok (item.0 ∷ items.0, items.1))
  item_first later have (Err e) has = tt
  item_first later have (Ok item) has = items_behind item.0 has (later item.1) (have item.1)

  items_have : (read : List ℕ → Reading Write) → ((bytes : List ℕ) → HasFirst PutHas (read bytes)) → (count : ℕ) (bytes : List ℕ) → HasFirst (All PutHas) (items_at read count bytes)
  unfolding items_at
  items_have read has zero bytes = All-nil PutHas
  items_have read has (suc more) bytes = item_first (items_at read more) (λ later. items_have read has more later) (read bytes) (has bytes)

  content_has : (read : List ℕ → Reading Write) → ((bytes : List ℕ) → HasFirst PutHas (read bytes)) → (bytes : List ℕ) → AllHave (content_at read bytes)
  unfolding content_at
  content_has read has bytes = counted (count_at bytes)
    where
      ends : (test : Bool) (rest : List ℕ) (items : List Write) → All PutHas items → AllHave (only_if test rest items)
      ends true rest items all = all
      ends false rest items all = tt

      itemed : (r : Reading (List Write)) → HasFirst (All PutHas) r → AllHave (r >>= λ items. only_if (length items.1 == 0) items.1 items.0)
      itemed (Err e) all = tt
      itemed (Ok items) all = ends (length items.1 == 0) items.1 items.0 all

      counted : (r : Reading ℕ) → AllHave (r >>= λ count. items_at read count.0 count.1 >>= λ items. only_if (length items.1 == 0) items.1 items.0)
      counted (Err e) = tt
      counted (Ok count) = itemed (items_at read count.0 count.1) (items_have read has count.0 count.1)

  offset_has : (total : ℕ) (r : Result (List Write) FieldError) → AllHave r → AllHave (with_offset total r)
  offset_has total (Ok writes) all = all
  offset_has total (Err e) all = tt

  deletes_have : (partition content : List ℕ) → AllHave (deletes_in partition content)
  deletes_have partition content = offset_has (length content) (content_at (delete_at partition) content) (content_has (delete_at partition) (delete_has partition) content)

  -- ---- views

  followed : {E : Type 0} (a b : Result (List Write) E) → AllHave a → AllHave b → AllHave (followed_by a b)
  followed (Err e) b has later = tt
  followed (Ok xs) (Err e) has later = tt
  followed (Ok xs) (Ok ys) has later = All-append PutHas xs ys has later

  each_has : {A E : Type 0} (size : A → ℕ) (gives : ℕ → A → Result (List Write) E) → ((n : ℕ) (x : A) → AllHave (gives n x)) → (n : ℕ) (xs : List A) → AllHave (all_from size gives n xs)
  each_has size gives has n [] = All-nil PutHas
  each_has size gives has n (x ∷ xs) = followed (gives n x) (all_from size gives (n + size x) xs) (has n x) (each_has size gives has (n + size x) xs)

  numbered_has : (n : ℕ) (r : Result (List Write) ℕ) → AllHave r → AllHave (numbered n r)
  numbered_has n (Ok writes) all = all
  numbered_has n (Err at) all = tt

  part_has : (name : List ℕ) (r : Result (List Write) ℕ) → AllHave r → AllHave (in_part name r)
  part_has name (Ok writes) all = all
  part_has name (Err at) all = tt

  module _ (reading : TableReading) (read : (place : DataPlace) (content : List ℕ) → IfOk (reading.rows place content) (All P)) where
    block_has : (group : GroupRef) (block : Block) → AllHave (block_writes reading group block)
    block_has group (Data instant schema content) = puts_have (reading.rows (place_in reading.table instant group) content) (read (place_in reading.table instant group) content)
    block_has group (Delete instant content) = deletes_have group.partition content
    block_has group (Rollback instant target) = All-nil PutHas

    counted_has : (counted : Bool) (n : ℕ) (group : GroupRef) (block : Block) → AllHave (cond counted (numbered n (block_writes reading group block)) (Ok []))
    counted_has true n group block = numbered_has n (block_writes reading group block) (block_has group block)
    counted_has false n group block = All-nil PutHas

    log_has : (group : GroupRef) (counted : Block → Bool) (n : ℕ) (log : PartLog) → AllHave (log_gives reading group counted n log)
    log_has group counted n log =
        part_has log.name (log_writes reading group counted log.blocks)
        (each_has one_each (block_gives reading group counted) (λ k block. counted_has (counted block) k group block) 0 log.blocks)

    group_has : (completed : List ℕ) (bytes : ℕ → List ℕ) (n : ℕ) (g : GroupParts) → AllHave (group_writes reading completed bytes n g)
    group_has completed bytes n g = by (logs_of bytes n g.parts)
      where
        by : (r : Result (List PartLog) Damage) → AllHave (writes_in reading completed g.group r)
        by (Err damage) = tt
        by (Ok logs) = each_has one_each (log_gives reading g.group (counts completed (voided logs))) (log_has g.group (counts completed (voided logs))) 0 logs

    view_has : (completed : List ℕ) (bytes : ℕ → List ℕ) (groups : List GroupParts) → AllHave (view_writes reading completed bytes groups)
    view_has completed bytes groups = each_has files_in (group_writes reading completed bytes) (group_has completed bytes) 0 groups

  -- ---- tables

  abbrev TableHas : RowTable → Type 0
  TableHas table = (key : Key) (row : Row) → get table key ≡ Some row → P row

  left_has : (present : Option Row) (w : Write) → IfSome present P → PutHas w → IfSome (row_after present w) P
  left_has None (Put row) was has = has
  left_has None (Del partition key rank) was has = tt
  left_has (Some row) w was has = by (int_lt (rank_of w) row.rank) w has
    where
      by : (greater : Bool) (v : Write) → PutHas v → IfSome (winner greater row v) P
      by true v own = was
      by false (Put other) own = own
      by false (Del partition key rank) own = tt

  there : (o : Option Row) → IfSome o P → (row : Row) → o ≡ Some row → P row
  there None has row is = absurd (no_some is)
  there (Some r) has row is = let same : r ≡ row = cc in subst P same has

  found : (o : Option Row) → ((row : Row) → o ≡ Some row → P row) → IfSome o P
  found None has = tt
  found (Some row) has = has row refl

  after_has : (table : RowTable) (w : Write) → TableHas table → PutHas w → TableHas (table_after table w)
  after_has table w has own key row is = by (eq_by_cmp key_cmp key (key_of w)) (sym (get-table_after table w key) ∙ is)
    where
      by : (same : Bool) → cond same (row_after (get table key) w) (get table key) ≡ Some row → P row
      by true here = there (row_after (get table key) w) (left_has (get table key) w (found (get table key) (has key)) own) row here
      by false here = has key row here

  all_after : (table : RowTable) (ws : List Write) → TableHas table → All PutHas ws → TableHas (table_after_all table ws)
  all_after table [] has all = has
  all_after table (w ∷ ws) has all = all_after (table_after table w) ws (after_has table w has (All-head PutHas w ws all)) (All-tail PutHas w ws all)

  entry_has : (es : List (Key × Row)) → T (is_sorted key_cmp es) → ((key : Key) (row : Row) → find key_cmp key es ≡ Some row → P row) → All P (map (λ (e : Key × Row). e.1) es)
  entry_has [] sorted has = All-nil P
  entry_has (e ∷ es) sorted has =
      All-cons P e.1 (map (λ (f : Key × Row). f.1) es)
      (has e.0 e.1 (ap (λ o. cond (is_eq o) (Some e.1) (find key_cmp e.0 es)) (tied_itself keys_total e.0)))
      (entry_has es (and_second _ _ sorted) (λ key row is. behind key row is (eq_by_cmp key_cmp key e.0) refl))
    where
      behind : (key : Key) (row : Row) → find key_cmp key es ≡ Some row → (b : Bool) → eq_by_cmp key_cmp key e.0 ≡ b → P row
      behind key row is true tied =
          absurd (no_some (sym (ap (λ q. find key_cmp q es) (same_key key e.0 tied) ∙ not_below e.0 es (and_first _ _ sorted)) ∙ is))
      behind key row is false apart = has key row (ap (λ b. cond b (Some e.1) (find key_cmp key es)) apart ∙ is)

  rows_have : (table : RowTable) → TableHas table → All P (rows_of table)
  rows_have table has = entry_has (entries table) (entries_sorted table) (λ key row is. has key row (get-entries table key ∙ is))

  -- ---- answers

  made_has : (t : Option ℕ) (r : Result (List Write) Damage) → AllHave r → RowsHave P (reply_with t r)
  made_has t (Ok writes) all = rows_have (table_after_all empty writes) (all_after empty writes (λ key row is. absurd (no_some (sym (get-nothing key) ∙ is))) all)
  made_has t (Err damage) all = tt

  ending_has : (r : Reply) → IfSome (ending r) (RowsHave P)
  ending_has (reply.Completed t) = tt
  ending_has (reply.NotCompleted t) = tt
  ending_has reply.TimeOver = tt
  ending_has reply.Fault = tt
  ending_has (reply.Damaged name cause) = tt
  ending_has _ = tt

  told_first : (rest : Option JobReply) → IfSome rest (RowsHave P) → (o : Option JobReply) → IfSome o (RowsHave P) → IfSome (first_of_two o rest) (RowsHave P)
  told_first rest later None has = later
  told_first rest later (Some answer) has = has

  pub told_has : (mine : List Entry) → IfSome (told mine) (RowsHave P)
  told_has [] = tt
  told_has (e ∷ es) = told_first (told es) (told_has es) (ending e.reply) (ending_has e.reply)

  module _ (reading : TableReading) (read : (place : DataPlace) (content : List ℕ) → IfOk (reading.rows place content) (All P)) where
    made_of : (view : View) (bytes : ℕ → List ℕ) (given : JobReply) → IsMadeOf reading view bytes given → RowsHave P given
    made_of view bytes (job.Rows t rows) made = subst (RowsHave P) (sym made.1) (made_has view.t _ (view_has reading read view.completed bytes view.groups))
    made_of view bytes _ made = tt

    pub answers_have : (at : Option ℕ) (mine : List Entry) (given : JobReply) → IsQueryReply reading at mine given → RowsHave P given
    answers_have at mine given is = by (told mine) (told_has mine) (pinned mine) is.answer
      where
        by : (o : Option JobReply) → IfSome o (RowsHave P) → (view : Option View) → IsAnswer reading o view (bytes_read mine) given → RowsHave P given
        by (Some answer) has view same = subst (RowsHave P) (sym same) has
        by None has None same = subst (RowsHave P) (sym same) tt
        by None has (Some view) made = made_of view (bytes_read mine) given made
