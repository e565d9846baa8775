use Rattle.std.proofs.Common.{◌≡◌, ◌∙◌, true, false}
use Rattle.clap.specs.Words.{app_of}
use Rattle.clap.specs.declared.error.kind.ErrorKind.TheVariants.{OutOfMemory}
use Rattle.ebs_words.proofs.Exact.{found_exactly, refused_for_memory}
use Rattle.ebs_words.proofs.words.parse.Goals as goal

pub returns-in-Ok : goal.returns-in-Ok
returns-in-Ok c = λ command.
    let exactly = found_exactly (app_of c.in_ok-grammar.field-0) c.args.words.now c.in-Ok.matches c.in_ok-grammar.ensures c.requires c.in-Ok.ensures.matches c.in-Ok.ensures.kinds command in
    (λ e. exactly.0 ((c.command_of.ensures command).0 e), λ spelled. (c.command_of.ensures command).1 (exactly.1 spelled))

pub returns-in-Err-2 : goal.returns-in-Err-2
returns-in-Err-2 c = λ command. (
  λ e. cc,
  λ spelled.
      let kind : c.kind.result ≡ OutOfMemory = c.kind.ensures ∙ refused_for_memory (app_of c.in_ok-grammar.field-0) c.args.words.now c.in-Err.error c.in_ok-grammar.ensures c.in-Err.ensures.kinds command spelled in
      let bad : false ≡ true = rw kind at c.if-eq.ensures in
      absurd cc,
)
