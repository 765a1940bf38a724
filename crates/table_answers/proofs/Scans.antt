-- What a query makes of the bytes of logs, where these are the bytes of blocks of writes.
use Rattle.std.proofs.Common.{◌≡◌, ◌+◌, ℕ, suc, Bool, true, false, cond, not, ◌&&◌, List, [], ◌∷◌, ◌++◌, map, Some, None, Result, Ok, slice_get, refl, sym, ap, ◌∙◌, arith}
use Rattle.std.specs.List.{AllByRecursion, flat_map}
use Rattle.std.proofs.lemmas.Grind.{flat_map-append}
use Rattle.log_block.specs.Form.{Fits, block_bytes}
use Rattle.log_block.specs.declared.block.Block.{Block}
use Rattle.log_scan.specs.Texts.{bytes_of_blocks, scan_of}
use Rattle.log_scan.specs.declared.found.Scan.{Scan}
use Rattle.log_scan.proofs.TextsOfBlocks.{whole_text}
use Rattle.hudi_base.specs.declared.file_group.Target.{Target}
use Rattle.payload_merge.specs.declared.row.Write.{Write}
use Rattle.table_history.specs.Logs.{bytes_in}
use Rattle.table_history.specs.Pins.{part_of}
use Rattle.table_history.specs.Tables.{KnownFile, Table}
use Rattle.table_history.specs.declared.log_file.LogFile.{LogFile}
use Rattle.table_history.specs.declared.view.Part.{Part}
use Rattle.table_query.specs.GroupReading as query
use Rattle.table_query.specs.GroupReading.{TableReading, all_from, block_gives, counts, followed_by, in_part, is_among, log_gives, log_of, logs_of, logs_writes, numbered, one_each, target_of, voided}
use Rattle.table_query.specs.declared.logs.PartLog.{PartLog}
use Rattle.upsert_writer.specs.Blocks.{BlockForm}
use Rattle.table_answers.specs.InstantWrites.{block_writes}
use Rattle.table_answers.proofs.LogTexts.{AreTexts}
use Rattle.table_answers.proofs.Placed.{PlacedBlock, bytes_of_placed, joined}
use Rattle.table_answers.proofs.WriteBlocks.{IsWriteBlock, counts_held, reads_held, voids_none}
use Rattle.table_answers.proofs.Writes.{counted}

abbrev found : List Write → Result (List Write) ℕ
found writes = Ok writes

picked : (c : Bool) (writes : List Write) → cond c (found writes) (found []) ≡ found (cond c writes [])
picked true writes = refl
picked false writes = refl

module _ (form : BlockForm) (s : Target) where
  abbrev pub AllHeld : List PlacedBlock → Type 0
  AllHeld bs = AllByRecursion (IsWriteBlock form s) bs

  abbrev pub block_of : (b : PlacedBlock) → IsWriteBlock form s b → Block
  block_of b has = has.block

  abbrev pub blocks_of : (bs : List PlacedBlock) → AllHeld bs → List Block
  blocks_of [] all = []
  blocks_of (b ∷ bs) all = block_of b all.0 ∷ blocks_of bs all.1

  all_fit : (bs : List PlacedBlock) (all : AllHeld bs) → AllByRecursion Fits (blocks_of bs all)
  all_fit [] all = tt
  all_fit (b ∷ bs) all = (all.0.fits, all_fit bs all.1)

  bytes_are : (bs : List PlacedBlock) (all : AllHeld bs) → bytes_of_placed bs ≡ bytes_of_blocks (blocks_of bs all)
  bytes_are [] all = refl
  bytes_are (b ∷ bs) all = ap (λ bytes. bytes ++ bytes_of_placed bs) all.0.is ∙ ap (λ bytes. block_bytes (block_of b all.0) ++ bytes) (bytes_are bs all.1)

  abbrev whole : (bs : List PlacedBlock) → AllHeld bs → Scan
  whole bs all = record { blocks = blocks_of bs all; torn_at = None }

  scanned : (bs : List PlacedBlock) (all : AllHeld bs) → scan_of (bytes_of_placed bs) ≡ Ok (whole bs all)
  scanned bs all = ap scan_of (bytes_are bs all) ∙ whole_text (blocks_of bs all) (all_fit bs all)

  -- ---- logs

  abbrev pub AllLogBlocks : List (List PlacedBlock) → Type 0
  AllLogBlocks bss = AllByRecursion AllHeld bss

  abbrev pub log_with : Table → LogFile → (bs : List PlacedBlock) → AllHeld bs → PartLog
  log_with A log bs all = record { name = (part_of A s log).name; blocks = blocks_of bs all }

  abbrev pub part_logs : Table → List LogFile → (bss : List (List PlacedBlock)) → AllLogBlocks bss → List PartLog
  part_logs A logs [] all = []
  part_logs A [] (bs ∷ rest) all = []
  part_logs A (log ∷ logs) (bs ∷ rest) all = log_with A log bs all.0 ∷ part_logs A logs rest all.1

  log_read : (A : Table) (log : LogFile) (bs : List PlacedBlock) (all : AllHeld bs) (bytes : List ℕ) → bytes ≡ bytes_of_placed bs → log_of (part_of A s log) bytes ≡ Ok (log_with A log bs all ∷ [])
  log_read A log bs all bytes is = rw (is, scanned bs all) refl

  pub logs_read : (A : Table) (fs : List KnownFile) (bytes : ℕ → List ℕ) (n : ℕ) (logs : List LogFile) (bss : List (List PlacedBlock)) (all : AllLogBlocks bss) → AreTexts A s fs logs bss
      → ((k : ℕ) (part : Part) → slice_get (map (part_of A s) logs) k ≡ Some part → bytes (n + k) ≡ bytes_in fs part.name)
      → logs_of bytes n (map (part_of A s) logs) ≡ Ok (part_logs A logs bss all)
  logs_read A fs bytes n [] [] all texts are = refl
  logs_read A fs bytes n [] (bs ∷ rest) all texts are = absurd texts
  logs_read A fs bytes n (log ∷ logs) [] all texts are = absurd texts
  logs_read A fs bytes n (log ∷ logs) (bs ∷ rest) all texts are =
      let first : bytes n ≡ bytes_of_placed bs = ap bytes (sym (add_none n)) ∙ are 0 (part_of A s log) refl ∙ texts.0.bytes in
      let later : logs_of bytes (n + 1) (map (part_of A s) logs) ≡ Ok (part_logs A logs rest all.1) =
      logs_read A fs bytes (n + 1) logs rest all.1 texts.1 (λ k part there. ap bytes (next n k) ∙ are (suc k) part there) in
      ap (λ found. followed_by found (logs_of bytes (n + 1) (map (part_of A s) logs))) (log_read A log bs all.0 (bytes n) first) ∙ ap (followed_by (Ok (log_with A log bs all.0 ∷ []))) later
    where
      add_none : (n : ℕ) → n + 0 ≡ n
      add_none n = omega arith

      next : (n k : ℕ) → (n + 1) + k ≡ n + suc k
      next n k = omega arith

  -- ---- what counts

  -- of blocks of writes those of the instants count
  abbrev Counts : List ℕ → (Block → Bool) → Type 0
  Counts times cf = (b : PlacedBlock) (has : IsWriteBlock form s b) → cf (block_of b has) ≡ is_among times b.t

  module _ (times : List ℕ) (cf : Block → Bool) (all_count : Counts times cf) where
    abbrev reading : TableReading
    reading = record { rows = form.reading; table = form.table }

    block_gives_writes : (n : ℕ) (b : PlacedBlock) (has : IsWriteBlock form s b) → block_gives reading s.group cf n (block_of b has) ≡ Ok (counted form times b)
    block_gives_writes n b has =
        ap (λ c. cond c (numbered n (query.block_writes reading s.group has.block)) (Ok [])) (all_count b has)
        ∙ ap (λ found. cond (is_among times b.t) (numbered n found) (Ok [])) (reads_held form b.t s.group has.wrote has.block has.holds) ∙ picked (is_among times b.t) has.wrote
        ∙ ap (λ writes. Ok (cond (is_among times b.t) writes [])) (sym (ap (λ r. block_writes form (Some r) b.bytes) has.to ∙ has.writes))

    blocks_give_writes : (n : ℕ) (bs : List PlacedBlock) (all : AllHeld bs) → all_from one_each (block_gives reading s.group cf) n (blocks_of bs all) ≡ Ok (flat_map (counted form times) bs)
    blocks_give_writes n [] all = refl
    blocks_give_writes n (b ∷ bs) all =
        ap (λ found. followed_by found (all_from one_each (block_gives reading s.group cf) (n + 1) (blocks_of bs all.1))) (block_gives_writes n b all.0)
        ∙ ap (followed_by (Ok (counted form times b))) (blocks_give_writes (n + 1) bs all.1)

    logs_give_writes : (A : Table) (n : ℕ) (logs : List LogFile) (bss : List (List PlacedBlock)) (all : AllLogBlocks bss) (fs : List KnownFile) → AreTexts A s fs logs bss
        → all_from one_each (log_gives reading s.group cf) n (part_logs A logs bss all) ≡ Ok (flat_map (counted form times) (joined bss))
    logs_give_writes A n [] [] all fs texts = refl
    logs_give_writes A n [] (bs ∷ rest) all fs texts = absurd texts
    logs_give_writes A n (log ∷ logs) [] all fs texts = absurd texts
    logs_give_writes A n (log ∷ logs) (bs ∷ rest) all fs texts =
        ap (λ found. followed_by (in_part (part_of A s log).name found) (all_from one_each (log_gives reading s.group cf) (n + 1) (part_logs A logs rest all.1))) (blocks_give_writes 0 bs all.0)
        ∙ ap (followed_by (Ok (flat_map (counted form times) bs))) (logs_give_writes A (n + 1) logs rest all.1 fs texts.1)
        ∙ ap Ok (sym (flat_map-append (counted form times) bs (joined rest)))

  -- ---- nothing is voided

  no_targets : (bs : List PlacedBlock) (all : AllHeld bs) → flat_map target_of (blocks_of bs all) ≡ []
  no_targets [] all = refl
  no_targets (b ∷ bs) all = ap (λ ts. ts ++ flat_map target_of (blocks_of bs all.1)) (voids_none form b.t s.group all.0.wrote all.0.block all.0.holds) ∙ no_targets bs all.1

  none_voided : (A : Table) (logs : List LogFile) (bss : List (List PlacedBlock)) (all : AllLogBlocks bss) → voided (part_logs A logs bss all) ≡ []
  none_voided A [] [] all = refl
  none_voided A [] (bs ∷ rest) all = refl
  none_voided A (log ∷ logs) [] all = refl
  none_voided A (log ∷ logs) (bs ∷ rest) all = ap (λ ts. ts ++ voided (part_logs A logs rest all.1)) (no_targets bs all.0) ∙ none_voided A logs rest all.1

  held_count : (times void : List ℕ) → void ≡ [] → Counts times (counts times void)
  held_count times void none b has =
      counts_held form b.t s.group has.wrote has.block times void has.holds ∙ ap (λ v. is_among times b.t && not (is_among v b.t)) none ∙ by (is_among times b.t)
    where
      by : (c : Bool) → (c && true) ≡ c
      by true = refl
      by false = refl

  pub logs_written : (A : Table) (times : List ℕ) (logs : List LogFile) (bss : List (List PlacedBlock)) (all : AllLogBlocks bss) (fs : List KnownFile) → AreTexts A s fs logs bss
      → logs_writes (record { rows = form.reading; table = form.table }) s.group (counts times (voided (part_logs A logs bss all))) (part_logs A logs bss all)
      ≡ Ok (flat_map (counted form times) (joined bss))
  logs_written A times logs bss all fs texts =
      logs_give_writes times (counts times (voided (part_logs A logs bss all))) (held_count times (voided (part_logs A logs bss all)) (none_voided A logs bss all)) A 0 logs bss all fs texts
