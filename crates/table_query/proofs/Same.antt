-- What is read depends on the bytes of each file, and on which times are among the completed and the voided ones.
use Rattle.std.proofs.Common.{◌≡◌, ◌+◌, ◌&&◌, not, ℕ, Bool, List, [], ◌∷◌, Result, Ok, Err, refl, ap, ◌∙◌}
use Rattle.std.specs.Prelude.{if◌then◌else◌}
use Rattle.hudi_base.specs.declared.file_group.GroupRef.{GroupRef}
use Rattle.log_block.specs.declared.block.Block.{Block}
use Rattle.log_block.specs.declared.block.Block.TheVariants.{Data, Delete, Rollback}
use Rattle.table_history.specs.declared.view.GroupParts.{GroupParts}
use Rattle.table_query.specs.GroupReading.{Damage, TableReading, followed_by, all_from, one_each, files_in, log_of, part_gives, logs_of, is_among, voided, counts, numbered, block_writes, block_gives, in_part, log_gives, logs_writes, writes_in, group_writes, view_writes}
use Rattle.table_query.specs.declared.logs.PartLog.{PartLog}

pub all_same : {A B E : Type 0} (size : A → ℕ) (f g : ℕ → A → Result (List B) E) (n : ℕ) (xs : List A) → ((k : ℕ) (x : A) → f k x ≡ g k x) → all_from size f n xs ≡ all_from size g n xs
all_same size f g n [] same = refl
all_same {B = B} {E = E} size f g n (x ∷ xs) same =
    ap (λ (r : Result (List B) E). followed_by r (all_from size f (n + size x) xs)) (same n x)
    ∙ ap (followed_by (g n x)) (all_same size f g (n + size x) xs same)

counts_same : (a b v w : List ℕ) → ((t : ℕ) → is_among a t ≡ is_among b t) → ((t : ℕ) → is_among v t ≡ is_among w t) → (block : Block) → counts a v block ≡ counts b w block
counts_same a b v w completed void (Data t schema content) = ap (λ (x : Bool). x && not (is_among v t)) (completed t) ∙ ap (λ (x : Bool). is_among b t && not x) (void t)
counts_same a b v w completed void (Delete t content) = ap (λ (x : Bool). x && not (is_among v t)) (completed t) ∙ ap (λ (x : Bool). is_among b t && not x) (void t)
counts_same a b v w completed void (Rollback t target) = refl

pub logs_same : (reading : TableReading) (group : GroupRef) (a b v w : List ℕ) → ((t : ℕ) → is_among a t ≡ is_among b t) → ((t : ℕ) → is_among v t ≡ is_among w t) → (logs : List PartLog)
    → logs_writes reading group (counts a v) logs ≡ logs_writes reading group (counts b w) logs
logs_same reading group a b v w completed void logs =
    all_same one_each (log_gives reading group (counts a v)) (log_gives reading group (counts b w)) 0 logs (λ n log.
    ap (in_part log.name) (all_same one_each (block_gives reading group (counts a v)) (block_gives reading group (counts b w)) 0 log.blocks (λ k block.
    ap (λ (x : Bool). if x then numbered k (block_writes reading group block) else Ok []) (counts_same a b v w completed void block))))

writes_same : (reading : TableReading) (group : GroupRef) (a b : List ℕ) → ((t : ℕ) → is_among a t ≡ is_among b t) → (logs : Result (List PartLog) Damage)
    → writes_in reading a group logs ≡ writes_in reading b group logs
writes_same reading group a b completed (Err damage) = refl
writes_same reading group a b completed (Ok logs) = logs_same reading group a b (voided logs) (voided logs) completed (λ t. refl) logs

pub view_same : (reading : TableReading) (a b : List ℕ) (bytes other : ℕ → List ℕ) (groups : List GroupParts) → ((t : ℕ) → is_among a t ≡ is_among b t) → ((k : ℕ) → bytes k ≡ other k)
    → view_writes reading a bytes groups ≡ view_writes reading b other groups
view_same reading a b bytes other groups completed same =
    all_same files_in (group_writes reading a bytes) (group_writes reading b other) 0 groups (λ n g.
    ap (writes_in reading a g.group) (all_same one_each (part_gives bytes) (part_gives other) n g.parts (λ k part. ap (log_of part) (same k)))
    ∙ writes_same reading g.group a b completed (logs_of other n g.parts))
