-- Lines that are printed.
use Rattle.std.proofs.Common.{◌≡◌, ℕ, ◌+◌, ◌-◌, ◌<◌, List, [], ◌∷◌, ◌++◌, length, length-take-le, take, refl, sym, arith, ap, ◌∙◌, append_assoc}
use Rattle.std.specs.Prelude.{get_or, Result, Ok, Err, OnOk, is_ok, if◌then◌else◌}
use Rattle.std.proofs.lemmas.List.{append-nil, take_more}
use Rattle.aim_messages.specs.declared.entries.Entry.{Entry}
use Rattle.aim_messages.specs.Texts.{entry_text, spaced}
use Rattle.aim_script.specs.Decided.{printed}
use Rattle.aim_driver.specs.declared.logs.LogItem.{LogItem}
use Rattle.aim_messages.specs.Writing.{added}
use Rattle.aim_messages.proofs.Words.{spaced_added}
use Rattle.aim_report.specs.declared.stays.Stay.{Stay}
use Rattle.aim_report.specs.Reports.{item_line, journal_lines, log_lines, stay_words}

logs-append : (v : ℕ) (xs ys : List LogItem) → log_lines v (xs ++ ys) ≡ log_lines v xs ++ log_lines v ys
logs-append v [] ys = refl
logs-append v (x ∷ xs) ys = ap (λ l. item_line v x ++ l) (logs-append v xs ys) ∙ sym (append_assoc (item_line v x) (log_lines v xs) (log_lines v ys))

-- one line more
pub log_next : (v : ℕ) (out start : List ℕ) (log : List LogItem) (i : ℕ) (d : LogItem) → i < length log → out ≡ start ++ log_lines v (take i log)
    → out ++ item_line v (get_or log i d) ≡ start ++ log_lines v (take (i + 1) log)
log_next v out start log i d lt is =
    let line = item_line v (get_or log i d) in
    ap (λ t. t ++ line) is ∙ append_assoc start (log_lines v (take i log)) line
    ∙ ap (λ t. start ++ t) (sym (ap (log_lines v) (take_more log i d lt) ∙ logs-append v (take i log) (get_or log i d ∷ []) ∙ ap (λ l. log_lines v (take i log) ++ l) (append-nil line)))

journal-append : (k : ℕ) (xs ys : List Entry) → journal_lines k (xs ++ ys) ≡ journal_lines k xs ++ journal_lines (k + length xs) ys
journal-append k [] ys = let same : k ≡ k + 0 = omega arith in ap (λ n. journal_lines n ys) same
journal-append k (x ∷ xs) ys =
    let line = printed (entry_text k x) in
    let same : (k + 1) + length xs ≡ k + length (x ∷ xs) = omega arith in
    ap (λ l. line ++ l) (journal-append (k + 1) xs ys ∙ ap (λ n. journal_lines (k + 1) xs ++ journal_lines n ys) same)
    ∙ sym (append_assoc line (journal_lines (k + 1) xs) (journal_lines (k + length (x ∷ xs)) ys))

-- one entry more
pub entry_next : (out start : List ℕ) (h : List Entry) (i : ℕ) (d : Entry) → i < length h → out ≡ start ++ journal_lines 0 (take i h)
    → out ++ printed (entry_text i (get_or h i d)) ≡ start ++ journal_lines 0 (take (i + 1) h)
entry_next out start h i d lt is =
    let line = printed (entry_text i (get_or h i d)) in
    let taken : length (take i h) ≡ i = length-take-le i h (omega arith) in
    let long : 0 + length (take i h) ≡ i = omega (arith, taken) in
    ap (λ t. t ++ line) is ∙ append_assoc start (journal_lines 0 (take i h)) line
    ∙ ap (λ t. start ++ t) (sym (ap (journal_lines 0) (take_more h i d lt) ∙ journal-append 0 (take i h) (get_or h i d ∷ [])
    ∙ ap (λ n. journal_lines 0 (take i h) ++ journal_lines n (get_or h i d ∷ [])) long
    ∙ ap (λ l. journal_lines 0 (take i h) ++ l) (append-nil line)))

pub stay_spaced : (v : ℕ) (s : Stay) → take (length (added [] (stay_words v s)) - 1) (added [] (stay_words v s)) ≡ spaced (stay_words v s)
stay_spaced v s = spaced_added (stay_words v s)

-- what stands there where the call succeeded
pub where_ok : {T E : Type 0} (r : Result T E) (new more old : List ℕ) → new ≡ (if is_ok r then more else old) → OnOk r (new ≡ more)
where_ok (Ok a) new more old e = e
where_ok (Err a) new more old e = tt
