use Rattle.std.proofs.Common.{refl, ap, ◌∙◌}
use Rattle.vex_decode.proofs.Slices.{DecodesSlice, over_bytes, slice_begun, slice_ok, slice_refused}
use Rattle.vex_decode.specs.Decode.{decode}
use Rattle.vex_decode.proofs.decoder.InstDecoderDecoder.decode_slice.Goals as goal

all : (c : goal.After-decode) → DecodesSlice c.args.self.now c.args.bytes.now c.decode.result
all c = over_bytes c.args.self.now c.args.bytes.now c.new-words.result c.decode.new.words c.new-words.ensures.left
    c.decode.result c.decode.ensures.decoded c.decode.ensures.slice

pub returns-clause-begun : goal.returns-clause-begun
returns-clause-begun c = slice_begun _ _ c.decode.result (all c)

pub returns-clause-within : goal.returns-clause-within
returns-clause-within c = slice_ok c.args.self.now c.args.bytes.now _ c.decode.result (all c) (λ decoded is. is.within)

pub returns-clause-most : goal.returns-clause-most
returns-clause-most c = slice_ok c.args.self.now c.args.bytes.now _ c.decode.result (all c) (λ decoded is. is.most)

pub returns-clause-spelled : goal.returns-clause-spelled
returns-clause-spelled c = slice_ok c.args.self.now c.args.bytes.now _ c.decode.result (all c)
    (λ decoded is. is.spelled)

pub returns-clause-permitted : goal.returns-clause-permitted
returns-clause-permitted c = slice_ok c.args.self.now c.args.bytes.now _ c.decode.result (all c)
    (λ decoded is. is.permitted)

pub returns-clause-refused : goal.returns-clause-refused
returns-clause-refused c = slice_refused _ _ c.decode.result (all c)

pub returns-clause-answer : goal.returns-clause-answer
returns-clause-answer c =
    c.decode.ensures.answer (record c.new-words.result { since_mark = 0 }) c.decode.new.words refl refl
    ∙ ap (decode c.args.self.now) c.new-words.ensures.left
