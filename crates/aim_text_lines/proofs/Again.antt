-- Reading gives back what was spelled, field by field.
use Rattle.std.proofs.Common.{◌≡◌, Bool, true, false, ◌∷◌, length, None, Ok, refl, sym, arith, length-take-le}
use Rattle.std.proofs.lemmas.List.{take-append-drop}
use Rattle.std.proofs.lemmas.Bool.{lt-ltb, le-leb}
use Rattle.aim_messages.specs.declared.script.MoveShape.{MoveShape}
use Rattle.aim_messages.specs.declared.script.MoveShape.TheVariants as shape
use Rattle.aim_messages.specs.declared.script.Name.{Name}
use Rattle.aim_text_lines.specs.declared.forms.ShapeForm.{ShapeForm}
use Rattle.aim_text_lines.specs.declared.forms.ShapeForm.TheVariants as way
use Rattle.aim_messages.specs.Texts.{Words}
use Rattle.aim_messages.specs.Lines.{name_word, window_word, shape_words, IsName}
use Rattle.aim_text_words.specs.Faults.{name, rest, fault_at}
use Rattle.aim_text_lines.specs.Forms.{windows}
use Rattle.aim_text_lines.specs.Reading.{is_early, name_of}
use Rattle.aim_text_lines.specs.Ranges.{IsShape}
use Rattle.aim_text_words.specs.Steps.{read_in, numbers_in}
use Rattle.aim_text_lines.specs.Steps.{shape_in}
use Rattle.aim_text_words.proofs.Again.{word_again, n32}

pub window_again : (ahead : Bool) (ws : Words) → read_in windows is_early (window_word ahead ∷ ws) ≡ Ok (ahead, ws)
unfolding read_in
window_again true ws = refl
window_again false ws = refl

abbrev pub form_of_shape : MoveShape → ShapeForm
form_of_shape (shape.Line x0 y0 x1 y1 m) = way.Line
form_of_shape (shape.Curve x0 y0 x1 y1 x2 y2 m) = way.Curve

pub shape_again : (s : MoveShape) → IsShape s → shape_in (form_of_shape s) (rest (shape_words s)) ≡ Ok s
unfolding shape_in numbers_in
shape_again (shape.Line x0 y0 x1 y1 m) r = rw (n32 x0 _ r.0, n32 y0 _ r.1, n32 x1 _ r.2, n32 y1 _ r.3, n32 m _ r.4) refl
shape_again (shape.Curve x0 y0 x1 y1 x2 y2 m) r =
    rw (n32 x0 _ r.0, n32 y0 _ r.1, n32 x1 _ r.2, n32 y1 _ r.3, n32 x2 _ r.4, n32 y2 _ r.5, n32 m _ r.6) refl

pub name_length : (n : Name) → IsName n → length n.bytes ≡ 16 → length (name_word n) ≡ n.len
name_length n is size = let most = is.most in length-take-le n.len n.bytes (omega arith)

pub name_again : (n : Name) (ws : Words) → IsName n → length n.bytes ≡ 16 → read_in name name_of (name_word n ∷ ws) ≡ Ok (n, ws)
name_again n ws is size = word_again name name_of (name_word n) ws n good same
  where
    len : length (name_word n) ≡ n.len
    len = name_length n is size

    good : fault_at name (name_word n ∷ ws) ≡ None
    good = rw (len, lt-ltb 0 n.len is.some, le-leb n.len 16 is.most, is.bytes) refl

    same : name_of (name_word n) ≡ n
    same = rw (len, sym is.rest, take-append-drop n.len n.bytes) refl
